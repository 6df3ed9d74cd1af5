use Rattle.std.proofs.Common.{rules, arith, ◌≡◌, ◌∙◌, true, false, List, map, refl, sym, ap, subst, string_bytes}
use Rattle.unit_journal.specs.Record.{entries_of}
use Rattle.unit_journal.specs.declared.record.Record.{Record}
use Rattle.tables.specs.Tables.{Store as Tables}
use Rattle.core_model.specs.Step.{CoreState}
use Rattle.rdb_core.specs.State.{pages_of, recorder_of, state_of}
use Rattle.journal_recorder.specs.Recording.{has_failed}
use Rattle.paged_tables.specs.PagedTables.{store_in}
use Rattle.recovery.proofs.Doubts.{xids_count}
use Rattle.recovery.specs.Journal.{AreGood}
use Rattle.recovery.specs.Laying.{records_of}
use Rattle.unit_records.specs.Records.{entry_of}
use Rattle.recovery.specs.Journaled.{Journaled, OnDisk, shown_on}
use Rattle.recovery.specs.Part.{durable_part}
use Rattle.durable_core.specs.Recorded.{core_on}
use Rattle.durable_core.proofs.Recording.{stays_failed}
use Rattle.durable_core.proofs.Resting.{has_store, left_by, not_rested, rested}
use Rattle.durable_core.specs.Checkpointing.{Checkpoints, told_of}
use Rattle.durable_core.specs.declared.checkpointing.Checkpointed.{Checkpointed}
use Rattle.durable_core.specs.declared.checkpointing.Checkpointed.TheVariants.{DeviceFailed}
use Rattle.durable_core.proofs.Switching.{untouched_journaled}
use Rattle.durable_core.proofs.durable.DurableCore.checkpoint.Goals as goal

pub held_in-held-requires : goal.held_in-held-requires
held_in-held-requires g c =
    let count = xids_count (state_of c.self.inside.core).branches in
    record { few = omega (arith, count, c.self.invariant.0.kept.table.in_doubt) }

pub returns-then-is_failed-clause-journaled : goal.returns-then-is_failed-clause-journaled
returns-then-is_failed-clause-journaled g c =
    let failed : has_failed (recorder_of c.self.inside.core) ≡ true = search rules in
    subst (λ (s : OnDisk g.row.D.Denot). Journaled g.D.Disk.is_modelled (shown_on g.D.Disk.life s) (shown_on g.D.Disk.life s)) c.self.view_is
    (stays_failed g.D.Disk.is_modelled g.D.Disk.life c.calls_make_records.ensures (core_on (string_bytes c.self.inside.name) (state_of c.self.inside.core) (recorder_of c.self.inside.core)) failed)

pub returns-in-Err-clause-journaled : goal.returns-in-Err-clause-journaled
returns-in-Err-clause-journaled g c =
    let going : has_failed (recorder_of c.self.inside.core) ≡ false = search rules in
    subst (λ (s : OnDisk g.row.D.Denot). Journaled g.D.Disk.is_modelled (shown_on g.D.Disk.life s) (shown_on g.D.Disk.life s)) c.self.view_is
    (untouched_journaled g.D.Disk.is_modelled g.D.Disk.life (string_bytes c.self.inside.name) c.calls_make_records.ensures (state_of c.self.inside.core) (state_of c.self.inside.core) (recorder_of c.self.inside.core) c.self.invariant.0 going refl)

pub returns-in-Err-find_places-clause-journaled : goal.returns-in-Err-find_places-clause-journaled
returns-in-Err-find_places-clause-journaled g c =
    let going : has_failed (recorder_of c.self.inside.core) ≡ false = search rules in
    subst (λ (s : OnDisk g.row.D.Denot). Journaled g.D.Disk.is_modelled (shown_on g.D.Disk.life s) (shown_on g.D.Disk.life s)) c.self.view_is
    (untouched_journaled g.D.Disk.is_modelled g.D.Disk.life (string_bytes c.self.inside.name) c.calls_make_records.ensures (state_of c.self.inside.core) (state_of c.self.inside.core) (recorder_of c.self.inside.core) c.self.invariant.0 going refl)

pub returns-in-Err-rest-clause-told : goal.returns-in-Err-rest-clause-told
returns-in-Err-rest-clause-told g c =
    let going : has_failed (recorder_of c.self.inside.core) ≡ false = search rules in
    let s = state_of c.self.inside.core in
    let r = recorder_of c.self.inside.core in
    let left = not_rested g.D.Disk.is_modelled g.D.Disk.life (string_bytes c.self.inside.name)
    (record { moments = c.moments_hold.ensures; laid = c.doubts_are_laid.ensures; sound = c.records_lead_to_sound_states.ensures; stores = c.checkpoints_are_known.ensures.stores })
    (record { stay = c.groups_stay.ensures; calls = c.calls_make_records.ensures; go_on = c.calls_go_on.ensures })
    s r c.self.invariant.0 going c.rest.new.self c.in-Err-rest.ensures.err in
    subst (λ (old : OnDisk g.row.D.Denot). Checkpoints g.D.Disk.is_modelled DeviceFailed (shown_on g.D.Disk.life old) (shown_on g.D.Disk.life (core_on (string_bytes c.self.inside.name) s c.rest.new.self))) c.self.view_is left.told_is

pub returns-in-Err-rest-clause-journaled : goal.returns-in-Err-rest-clause-journaled
returns-in-Err-rest-clause-journaled g c =
    let going : has_failed (recorder_of c.self.inside.core) ≡ false = search rules in
    let s = state_of c.self.inside.core in
    let r = recorder_of c.self.inside.core in
    let left = not_rested g.D.Disk.is_modelled g.D.Disk.life (string_bytes c.self.inside.name)
    (record { moments = c.moments_hold.ensures; laid = c.doubts_are_laid.ensures; sound = c.records_lead_to_sound_states.ensures; stores = c.checkpoints_are_known.ensures.stores })
    (record { stay = c.groups_stay.ensures; calls = c.calls_make_records.ensures; go_on = c.calls_go_on.ensures })
    s r c.self.invariant.0 going c.rest.new.self c.in-Err-rest.ensures.err in
    subst (λ (old : OnDisk g.row.D.Denot). Journaled g.D.Disk.is_modelled (shown_on g.D.Disk.life old) (shown_on g.D.Disk.life (core_on (string_bytes c.self.inside.name) s c.rest.new.self))) c.self.view_is left.journaled_is

pub invariant_of-self : goal.invariant_of-self
invariant_of-self g c =
    let going : has_failed (recorder_of c.self.inside.core) ≡ false = search rules in
    let s = state_of c.self.inside.core in
    let r = recorder_of c.self.inside.core in
    let left = not_rested g.D.Disk.is_modelled g.D.Disk.life (string_bytes c.self.inside.name)
    (record { moments = c.moments_hold.ensures; laid = c.doubts_are_laid.ensures; sound = c.records_lead_to_sound_states.ensures; stores = c.checkpoints_are_known.ensures.stores })
    (record { stay = c.groups_stay.ensures; calls = c.calls_make_records.ensures; go_on = c.calls_go_on.ensures })
    s r c.self.invariant.0 going c.rest.new.self c.in-Err-rest.ensures.err in
    (left.recorded, c.pages_are_kept.ensures.not_laid r c.rest.new.self (pages_of c.self.inside.core) c.in-Err-rest.ensures.err c.self.invariant.1)

pub checkpoint-requires : goal.checkpoint-requires
checkpoint-requires g c =
    let going : has_failed (recorder_of c.self.inside.core) ≡ false = search rules in
    let s = state_of c.self.inside.core in
    let r = recorder_of c.self.inside.core in
    let is_rested = rested g.D.Disk.is_modelled g.D.Disk.life (string_bytes c.self.inside.name)
    (record { moments = c.moments_hold.ensures; laid = c.doubts_are_laid.ensures; sound = c.records_lead_to_sound_states.ensures; stores = c.checkpoints_are_known.ensures.stores })
    (record { stay = c.groups_stay.ensures; calls = c.calls_make_records.ensures; go_on = c.calls_go_on.ensures })
    s r c.self.invariant.0 going c.rest.new.self c.in-Ok-rest.ensures.ok c.in-Ok-rest.ensures.rest c.rest.ensures.stays in
    record {
      going = c.in-Ok-rest.ensures.ok.going ∙ going;
      rest = c.in-Ok-rest.ensures.rest;
      inside = is_rested.inside;
      pages = c.pages_are_kept.ensures.laid_ahead r c.rest.new.self (pages_of c.self.inside.core) c.in-Ok-rest.ensures.ok c.self.invariant.1;
    }

pub invariant_of-self-2 : goal.invariant_of-self-2
invariant_of-self-2 g c =
    let going : has_failed (recorder_of c.self.inside.core) ≡ false = search rules in
    let s = state_of c.self.inside.core in
    let r = recorder_of c.self.inside.core in
    let t : CoreState = record s { base = record s.base { store = store_in c.checkpoint.new.tables } } in
    let same : t ≡ s = ap (λ (x : Tables). let y : CoreState = record s { base = record s.base { store = x } } in y) c.checkpoint.ensures.tables in
    let are : entries_of c.as_slice-2.result.now ≡ map entry_of (records_of (durable_part s).doubts) = ap (λ (l : List Record). entries_of l) c.as_slice-2.ensures.value ∙ c.in-Ok.ensures in
    let placed = λ (good : AreGood (records_of (durable_part s).doubts)). c.in-Ok-find_places.ensures (durable_part s).doubts good (ap (λ (l : List Record). entries_of l) c.as_slice.ensures.value ∙ c.in-Ok.ensures) in
    let is_left = left_by g.D.Disk.is_modelled g.D.Disk.life (string_bytes c.self.inside.name)
    (record { moments = c.moments_hold.ensures; laid = c.doubts_are_laid.ensures; sound = c.records_lead_to_sound_states.ensures; stores = c.checkpoints_are_known.ensures.stores })
    (record { stay = c.groups_stay.ensures; calls = c.calls_make_records.ensures; go_on = c.calls_go_on.ensures })
    s r c.self.invariant.0 going c.rest.new.self c.in-Ok-rest.ensures.ok c.in-Ok-rest.ensures.rest c.rest.ensures.stays
    (entries_of c.as_slice-2.result.now) are placed c.held_in-held.result c.held_in-held.ensures c.checkpoint.result t same c.checkpoint.new.self c.checkpoint.ensures.told in (
      is_left.recorded,
      c.checkpoint.ensures.pages (has_store g.D.Disk.is_modelled g.D.Disk.life (string_bytes c.self.inside.name)
          (record { moments = c.moments_hold.ensures; laid = c.doubts_are_laid.ensures; sound = c.records_lead_to_sound_states.ensures; stores = c.checkpoints_are_known.ensures.stores })
          (record { stay = c.groups_stay.ensures; calls = c.calls_make_records.ensures; go_on = c.calls_go_on.ensures })
          s r c.self.invariant.0 going c.rest.new.self c.in-Ok-rest.ensures.ok c.in-Ok-rest.ensures.rest c.rest.ensures.stays),
    )

pub returns-clause-told : goal.returns-clause-told
returns-clause-told g c =
    let going : has_failed (recorder_of c.self.inside.core) ≡ false = search rules in
    let s = state_of c.self.inside.core in
    let r = recorder_of c.self.inside.core in
    let t : CoreState = record s { base = record s.base { store = store_in c.checkpoint.new.tables } } in
    let same : t ≡ s = ap (λ (x : Tables). let y : CoreState = record s { base = record s.base { store = x } } in y) c.checkpoint.ensures.tables in
    let are : entries_of c.as_slice-2.result.now ≡ map entry_of (records_of (durable_part s).doubts) = ap (λ (l : List Record). entries_of l) c.as_slice-2.ensures.value ∙ c.in-Ok.ensures in
    let placed = λ (good : AreGood (records_of (durable_part s).doubts)). c.in-Ok-find_places.ensures (durable_part s).doubts good (ap (λ (l : List Record). entries_of l) c.as_slice.ensures.value ∙ c.in-Ok.ensures) in
    let is_left = left_by g.D.Disk.is_modelled g.D.Disk.life (string_bytes c.self.inside.name)
    (record { moments = c.moments_hold.ensures; laid = c.doubts_are_laid.ensures; sound = c.records_lead_to_sound_states.ensures; stores = c.checkpoints_are_known.ensures.stores })
    (record { stay = c.groups_stay.ensures; calls = c.calls_make_records.ensures; go_on = c.calls_go_on.ensures })
    s r c.self.invariant.0 going c.rest.new.self c.in-Ok-rest.ensures.ok c.in-Ok-rest.ensures.rest c.rest.ensures.stays
    (entries_of c.as_slice-2.result.now) are placed c.held_in-held.result c.held_in-held.ensures c.checkpoint.result t same c.checkpoint.new.self c.checkpoint.ensures.told in
    subst (λ (x : Checkpointed). Checkpoints g.D.Disk.is_modelled x (shown_on g.D.Disk.life c.args.self.now) (shown_on g.D.Disk.life (core_on (string_bytes c.self.inside.name) t c.checkpoint.new.self))) (sym c.told.ensures)
    (subst (λ (old : OnDisk g.row.D.Denot). Checkpoints g.D.Disk.is_modelled (told_of c.checkpoint.result) (shown_on g.D.Disk.life old) (shown_on g.D.Disk.life (core_on (string_bytes c.self.inside.name) t c.checkpoint.new.self))) c.self.view_is is_left.told_is)

pub returns-clause-journaled : goal.returns-clause-journaled
returns-clause-journaled g c =
    let going : has_failed (recorder_of c.self.inside.core) ≡ false = search rules in
    let s = state_of c.self.inside.core in
    let r = recorder_of c.self.inside.core in
    let t : CoreState = record s { base = record s.base { store = store_in c.checkpoint.new.tables } } in
    let same : t ≡ s = ap (λ (x : Tables). let y : CoreState = record s { base = record s.base { store = x } } in y) c.checkpoint.ensures.tables in
    let are : entries_of c.as_slice-2.result.now ≡ map entry_of (records_of (durable_part s).doubts) = ap (λ (l : List Record). entries_of l) c.as_slice-2.ensures.value ∙ c.in-Ok.ensures in
    let placed = λ (good : AreGood (records_of (durable_part s).doubts)). c.in-Ok-find_places.ensures (durable_part s).doubts good (ap (λ (l : List Record). entries_of l) c.as_slice.ensures.value ∙ c.in-Ok.ensures) in
    let is_left = left_by g.D.Disk.is_modelled g.D.Disk.life (string_bytes c.self.inside.name)
    (record { moments = c.moments_hold.ensures; laid = c.doubts_are_laid.ensures; sound = c.records_lead_to_sound_states.ensures; stores = c.checkpoints_are_known.ensures.stores })
    (record { stay = c.groups_stay.ensures; calls = c.calls_make_records.ensures; go_on = c.calls_go_on.ensures })
    s r c.self.invariant.0 going c.rest.new.self c.in-Ok-rest.ensures.ok c.in-Ok-rest.ensures.rest c.rest.ensures.stays
    (entries_of c.as_slice-2.result.now) are placed c.held_in-held.result c.held_in-held.ensures c.checkpoint.result t same c.checkpoint.new.self c.checkpoint.ensures.told in
    subst (λ (old : OnDisk g.row.D.Denot). Journaled g.D.Disk.is_modelled (shown_on g.D.Disk.life old) (shown_on g.D.Disk.life (core_on (string_bytes c.self.inside.name) t c.checkpoint.new.self))) c.self.view_is is_left.journaled_is
