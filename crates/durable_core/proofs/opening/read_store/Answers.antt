use Rattle.std.proofs.Common.{rules, ◌≡◌, ◌<◌, ℕ, List, refl, sym, ◌∙◌, ap, subst, arith}
use Rattle.drda_disk.proofs.Moments.{Only-stays}
use Rattle.unit_journal.specs.Journal.{held_of, room_of}
use Rattle.unit_journal.specs.Record.{entries_of}
use Rattle.unit_journal.specs.declared.record.Record.{Record}
use Rattle.unit_journal.specs.Stands.{IsDamagedAt as HasNoRecord, Stands}
use Rattle.store_check.specs.Checkpoint.{HasCheckpoint, forms}
use Rattle.store_check.specs.Half.{BreaksHalf, pages_of}
use Rattle.paged_tables.specs.PagedTables.{store_in}
use Rattle.paged_tables.specs.TablesByName.{PagesStay, Tables as PagesByName}
use Rattle.recovery.specs.Durable.{Doubts, at_checkpoint}
use Rattle.recovery.specs.Journal.{Leads, StopsAt}
use Rattle.recovery.specs.Known.{AreKnown}
use Rattle.recovery.specs.Laws.{held_for}
use Rattle.recovery.specs.Replay.{doubts_in, durable_of}
use Rattle.recovery.specs.declared.prepared.PreparedUnit.{PreparedUnit}
use Rattle.durable_core.specs.Holders.{TellsLast}
use Rattle.durable_core.specs.Found.{StandInFront}
use Rattle.durable_core.specs.Reads.{TellsDamage}
use Rattle.durable_core.proofs.Parts.{found_all, held_plain, in_front, journal_plain, passed_on, settled_on, tables_plain, units_plain}
use Rattle.durable_core.proofs.Telling.{bad_page, handed_on, is_short, misplaced, no_record, no_room, told}
use Rattle.durable_core.proofs.opening.read_store.Goals as goal

pub read_journal-requires-clause-settled : goal.read_journal-requires-clause-settled
read_journal-requires-clause-settled g c = Only-stays _ _ c.in_ok-tables.ensures.stays (Only-stays _ _ c.in_ok-active.ensures.stays c.requires.settled)

pub returns-in_err-tables-clause-opens : goal.returns-in_err-tables-clause-opens
returns-in_err-tables-clause-opens g c name d is opens =
    let image = (g.D.Disk.life c.args.pager.now).seen in
    let active = c.in_ok-active.active in
    passed_on c.read_tables.result c.in_err-tables.field-0.0 c.from_residual-in_err-tables.result (search rules) (search rules)
    (tables_plain image name d opens c.images_open_there.ensures active (c.in_ok-active.ensures.head is) c.read_tables.result
    (λ tables has. c.read_tables.ensures.opens tables is (subst (λ (i : List ℕ). HasCheckpoint i (pages_of active) tables) (sym c.in_ok-active.ensures.stays.same) has)))

pub returns-in_err-tables-clause-tells : goal.returns-in_err-tables-clause-tells
returns-in_err-tables-clause-tells g c is =
    let image = (g.D.Disk.life c.args.pager.now).seen in
    let active = c.in_ok-active.active in
    handed_on image c.read_tables.result c.in_err-tables.field-0.0 c.from_residual-in_err-tables.result (search rules) (search rules)
    (told image (λ at. BreaksHalf forms (g.D.Disk.life c.read_head.new.disk).seen (pages_of active) at)
    (λ at there. bad_page image active (c.in_ok-active.ensures.head is) at (subst (λ (i : List ℕ). BreaksHalf forms i (pages_of active) at) c.in_ok-active.ensures.stays.same there))
    c.read_tables.result (c.read_tables.ensures.tells is))

pub returns-in_err-journal-clause-opens : goal.returns-in_err-journal-clause-opens
returns-in_err-journal-clause-opens g c name d is opens =
    let image = (g.D.Disk.life c.args.pager.now).seen in
    let active = c.in_ok-active.active in
    passed_on c.read_journal.result c.in_err-journal.field-0.0 c.from_residual-in_err-journal.result (search rules) (search rules)
    (journal_plain image name d opens c.images_open_there.ensures active (c.in_ok-active.ensures.head is) c.read_journal.result
    (λ es stands. c.read_journal.ensures.opens es is (subst (λ (i : List ℕ). Stands active.region es i) (sym (c.in_ok-tables.ensures.stays.same ∙ c.in_ok-active.ensures.stays.same)) stands)))

pub returns-in_err-journal-clause-tells : goal.returns-in_err-journal-clause-tells
returns-in_err-journal-clause-tells g c is =
    let image = (g.D.Disk.life c.args.pager.now).seen in
    let active = c.in_ok-active.active in
    let tables = store_in c.in_ok-tables.tables in
    let laid = subst (λ (i : List ℕ). HasCheckpoint i (pages_of active) tables) c.in_ok-active.ensures.stays.same (c.in_ok-tables.ensures.laid is) in
    handed_on image c.read_journal.result c.in_err-journal.field-0.0 c.from_residual-in_err-journal.result (search rules) (search rules)
    (told image (λ at. HasNoRecord active.region at (g.D.Disk.life c.read_tables.new.pager).seen)
    (λ at there. no_record image active (c.in_ok-active.ensures.head is) tables laid at
    (subst (λ (i : List ℕ). HasNoRecord active.region at i) (c.in_ok-tables.ensures.stays.same ∙ c.in_ok-active.ensures.stays.same) there))
    c.read_journal.result (c.read_journal.ensures.tells is))

pub returns-in_err-read_units-clause-opens : goal.returns-in_err-read_units-clause-opens
returns-in_err-read_units-clause-opens g c name d is opens =
    let image = (g.D.Disk.life c.args.pager.now).seen in
    let active = c.in_ok-active.active in
    let tables = store_in c.in_ok-tables.tables in
    let laid = subst (λ (i : List ℕ). HasCheckpoint i (pages_of active) tables) c.in_ok-active.ensures.stays.same (c.in_ok-tables.ensures.laid is) in
    let records = entries_of c.in_ok-journal.records.items in
    let stands = subst (λ (i : List ℕ). Stands active.region records i) (c.in_ok-tables.ensures.stays.same ∙ c.in_ok-active.ensures.stays.same) (c.in_ok-journal.ensures.stand is) in
    passed_on c.read_units.result c.in_err-read_units.field-0.0 c.from_residual-in_err-read_units.result (search rules) (search rules)
    (units_plain image name d opens c.images_open_there.ensures active (c.in_ok-active.ensures.head is) c.checkpoints_are_known.ensures.one c.a_region_has_one_reading.ensures tables laid records stands c.read_units.result
    (λ e known leads. c.read_units.ensures.opens e (subst (λ (rs : List Record). AreKnown active.layout (entries_of rs)) (sym c.as_slice.ensures.value) known) (subst (λ (rs : List Record). Leads (at_checkpoint tables) (entries_of rs) e) (sym c.as_slice.ensures.value) leads)))

pub returns-in_err-read_units-clause-tells : goal.returns-in_err-read_units-clause-tells
returns-in_err-read_units-clause-tells g c is =
    let image = (g.D.Disk.life c.args.pager.now).seen in
    let active = c.in_ok-active.active in
    let tables = store_in c.in_ok-tables.tables in
    let laid = subst (λ (i : List ℕ). HasCheckpoint i (pages_of active) tables) c.in_ok-active.ensures.stays.same (c.in_ok-tables.ensures.laid is) in
    let records = c.in_ok-journal.records.items in
    let stands = subst (λ (i : List ℕ). Stands active.region (entries_of records) i) (c.in_ok-tables.ensures.stays.same ∙ c.in_ok-active.ensures.stays.same) (c.in_ok-journal.ensures.stand is) in
    handed_on image c.read_units.result c.in_err-read_units.field-0.0 c.from_residual-in_err-read_units.result (search rules) (search rules)
    (told image (λ at. StopsAt active.layout (at_checkpoint tables) records at)
    (λ at there. misplaced image active (c.in_ok-active.ensures.head is) tables laid records stands (c.in_ok-journal.ensures.records is).places at there)
    c.read_units.result (subst (λ (rs : List Record). TellsDamage c.read_units.result (λ at. StopsAt active.layout (at_checkpoint tables) rs at)) c.as_slice.ensures.value c.read_units.ensures.tells))

pub returns-in_err-hold_all-clause-opens : goal.returns-in_err-hold_all-clause-opens
returns-in_err-hold_all-clause-opens g c name d is opens =
    let image = (g.D.Disk.life c.args.pager.now).seen in
    let active = c.in_ok-active.active in
    let tables = store_in c.in_ok-tables.tables in
    let laid = subst (λ (i : List ℕ). HasCheckpoint i (pages_of active) tables) c.in_ok-active.ensures.stays.same (c.in_ok-tables.ensures.laid is) in
    let records = entries_of c.in_ok-journal.records.items in
    let stands = subst (λ (i : List ℕ). Stands active.region records i) (c.in_ok-tables.ensures.stays.same ∙ c.in_ok-active.ensures.stays.same) (c.in_ok-journal.ensures.stand is) in
    passed_on c.hold_all.result c.in_err-hold_all.field-0.0 c.from_residual-in_err-hold_all.result (search rules) (search rules)
    (held_plain image name d opens c.images_open_there.ensures active (c.in_ok-active.ensures.head is) c.checkpoints_are_known.ensures.one c.a_region_has_one_reading.ensures tables laid records stands c.hold_all.result
    c.records_lead_one_way.ensures.one (durable_of c.in_ok-read_units.field-0)
    (subst (λ (rs : List Record). Leads (at_checkpoint tables) (entries_of rs) (durable_of c.in_ok-read_units.field-0)) c.as_slice.ensures.value c.in_ok-read_units.ensures.leads)
    c.in_ok-journal.journal c.in_ok-journal.ensures.region.0 c.in_ok-journal.ensures.region.1 (c.in_ok-journal.ensures.records is).settled.next
    (doubts_in c.as_slice-3.result.now) (ap (λ (us : List PreparedUnit). doubts_in us) c.as_slice-3.ensures.value ∙ c.into_parts-store.ensures.units) c.hold_all.ensures.opens)

pub returns-in_err-hold_all-clause-tells : goal.returns-in_err-hold_all-clause-tells
returns-in_err-hold_all-clause-tells g c is =
    let image = (g.D.Disk.life c.args.pager.now).seen in
    let active = c.in_ok-active.active in
    let tables = store_in c.in_ok-tables.tables in
    let laid = subst (λ (i : List ℕ). HasCheckpoint i (pages_of active) tables) c.in_ok-active.ensures.stays.same (c.in_ok-tables.ensures.laid is) in
    let records = c.in_ok-journal.records.items in
    let stands = subst (λ (i : List ℕ). Stands active.region (entries_of records) i) (c.in_ok-tables.ensures.stays.same ∙ c.in_ok-active.ensures.stays.same) (c.in_ok-journal.ensures.stand is) in
    let d = durable_of c.in_ok-read_units.field-0 in
    let journal = c.in_ok-journal.journal in
    let leads = subst (λ (rs : List Record). Leads (at_checkpoint tables) (entries_of rs) d) c.as_slice.ensures.value c.in_ok-read_units.ensures.leads in
    let known = subst (λ (rs : List Record). AreKnown active.layout (entries_of rs)) c.as_slice.ensures.value c.in_ok-read_units.ensures.known in
    let same : doubts_in c.as_slice-3.result.now ≡ d.doubts = ap (λ (us : List PreparedUnit). doubts_in us) c.as_slice-3.ensures.value ∙ c.into_parts-store.ensures.units in
    let tells = subst (λ (ds : Doubts). TellsDamage c.hold_all.result (λ at. (room_of journal < held_for active.layout ds) × TellsLast ds records at)) same
    (subst (λ (rs : List Record). TellsDamage c.hold_all.result (λ at. (room_of journal < held_for active.layout (doubts_in c.as_slice-3.result.now)) × TellsLast (doubts_in c.as_slice-3.result.now) rs at)) c.as_slice-2.ensures.value c.hold_all.ensures.tells) in
    handed_on image c.hold_all.result c.in_err-hold_all.field-0.0 c.from_residual-in_err-hold_all.result (search rules) (search rules)
    (told image (λ at. (room_of journal < held_for active.layout d.doubts) × TellsLast d.doubts records at)
    (λ at there. no_room image active (c.in_ok-active.ensures.head is) tables laid records stands (c.in_ok-journal.ensures.records is).places d known leads
    (is_short active.region journal (entries_of records) (held_for active.layout d.doubts) c.in_ok-journal.ensures.region.0 c.in_ok-journal.ensures.region.1 (c.in_ok-journal.ensures.records is).settled.next there.0) at there.1)
    c.hold_all.result tells)

pub returns-clause-found : goal.returns-clause-found
returns-clause-found g c =
    let life = g.D.Disk.life in
    let image = (life c.args.pager.now).seen in
    let active = c.in_ok-active.active in
    let tables = store_in c.in_ok-tables.tables in
    let records = entries_of c.in_ok-journal.records.items in
    let d = durable_of c.in_ok-read_units.field-0 in
    let tables_seen = c.in_ok-tables.ensures.stays.same ∙ c.in_ok-active.ensures.stays.same in
    let leads = subst (λ (rs : List Record). Leads (at_checkpoint tables) (entries_of rs) d) c.as_slice.ensures.value c.in_ok-read_units.ensures.leads in
    let known = subst (λ (rs : List Record). AreKnown active.layout (entries_of rs)) c.as_slice.ensures.value c.in_ok-read_units.ensures.known in
    let units : List PreparedUnit = c.into_parts-store.result.1.items in
    let held : held_of c.hold_all.new.journal ≡ held_for active.layout (doubts_in units) =
    omega (arith, c.in_ok-hold_all.ensures.held, c.in_ok-journal.ensures.region.1, ap (λ (us : List PreparedUnit). held_for active.layout (doubts_in us)) c.as_slice-3.ensures.value) in
    found_all g.D.Disk.is_modelled (life c.read_journal.new.disk) image active tables records d _ (c.in_ok-journal.ensures.stays.same ∙ tables_seen) known leads
    (λ i. record { store = c.into_parts-store.ensures.store i; doubts = c.into_parts-store.ensures.units i })
    (c.in_ok-hold_all.ensures.same.0 ∙ c.in_ok-journal.ensures.region.0) refl held refl
    c.records_lead_to_sound_states.ensures c.in_ok-tables.ensures.store c.in_ok-active.ensures.journal c.in_ok-active.ensures.pages
    (in_front g.D.Disk.is_modelled image active.region c.in_ok-tables.tables.tables c.into_parts-store.result.0.tables
    (subst (λ (t : PagesByName). PagesStay c.in_ok-tables.tables.tables t) (sym c.into_parts-store.ensures.pages) c.in_ok-read_units.ensures.pages)
    (subst (λ (i : List ℕ). StandInFront g.D.Disk.is_modelled i active.region c.in_ok-tables.tables.tables) c.in_ok-active.ensures.stays.same c.in_ok-tables.ensures.stand))
    c.in_ok-active.ensures.head
    (λ is. subst (λ (i : List ℕ). HasCheckpoint i (pages_of active) tables) c.in_ok-active.ensures.stays.same (c.in_ok-tables.ensures.laid is))
    (λ is. settled_on g.D.Disk.is_modelled (life c.read_journal.new.disk) records c.in_ok-journal.journal c.hold_all.new.journal c.in_ok-hold_all.ensures.same (c.in_ok-journal.ensures.records is).settled)
