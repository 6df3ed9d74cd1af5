use Rattle.std.proofs.Common.{rules, ◌≡◌, true, false, string_bytes, subst, sym}
use Rattle.paged_tables.specs.TablesByName.{Tables}
use Rattle.rdb_core.specs.State.{pages_of, recorder_of, state_of}
use Rattle.journal_recorder.specs.Reading.{HasPages}
use Rattle.journal_recorder.specs.Recording.{has_failed}
use Rattle.recovery.specs.Journaled.{Journaled, OnDisk, shown_on}
use Rattle.durable_core.specs.Copying.{Copies}
use Rattle.durable_core.specs.Recorded.{core_on}
use Rattle.durable_core.proofs.Copying.{left_by}
use Rattle.durable_core.proofs.Recording.{stays_failed}
use Rattle.durable_core.proofs.durable.DurableCore.plain.Goals as goal

pub returns-then-is_failed-clause-journaled : goal.returns-then-is_failed-clause-journaled
returns-then-is_failed-clause-journaled g c =
    let failed : has_failed (recorder_of c.self.inside.core) ≡ true = search rules in
    subst (λ (s : OnDisk g.row.D.Denot). Journaled g.D.Disk.is_modelled (shown_on g.D.Disk.life s) (shown_on g.D.Disk.life s)) c.self.view_is
    (stays_failed g.D.Disk.is_modelled g.D.Disk.life c.calls_make_records.ensures (core_on (string_bytes c.self.inside.name) (state_of c.self.inside.core) (recorder_of c.self.inside.core)) failed)

pub invariant_of-self : goal.invariant_of-self
invariant_of-self g c =
    let going : has_failed (recorder_of c.self.inside.core) ≡ false = search rules in
    let is_left = left_by g.D.Disk.is_modelled g.D.Disk.life (string_bytes c.self.inside.name)
    (record { held_for_doubts = c.doubts_hold_their_decisions.ensures; records_stay = c.records_stay.ensures; calls_made = c.calls_make_records.ensures })
    (state_of c.self.inside.core) (recorder_of c.self.inside.core) c.self.invariant.0 going c.plain.result (state_of c.plain.new.self) c.plain.ensures.state (recorder_of c.plain.new.self) c.plain.ensures.recorder in
    (is_left.recorded, subst (λ (t : Tables). HasPages g.D.Disk.is_modelled g.D.Disk.life (recorder_of c.plain.new.self) t) (sym c.plain.ensures.pages) (is_left.pages (pages_of c.self.inside.core) c.self.invariant.1))

pub returns-clause-copies : goal.returns-clause-copies
returns-clause-copies g c =
    let going : has_failed (recorder_of c.self.inside.core) ≡ false = search rules in
    let is_left = left_by g.D.Disk.is_modelled g.D.Disk.life (string_bytes c.self.inside.name)
    (record { held_for_doubts = c.doubts_hold_their_decisions.ensures; records_stay = c.records_stay.ensures; calls_made = c.calls_make_records.ensures })
    (state_of c.self.inside.core) (recorder_of c.self.inside.core) c.self.invariant.0 going c.plain.result (state_of c.plain.new.self) c.plain.ensures.state (recorder_of c.plain.new.self) c.plain.ensures.recorder in
    subst (λ (old : OnDisk g.row.D.Denot). Copies g.D.Disk.is_modelled c.told.result (shown_on g.D.Disk.life old) (shown_on g.D.Disk.life (core_on (string_bytes c.self.inside.name) (state_of c.plain.new.self) (recorder_of c.plain.new.self)))) c.self.view_is
    (subst (λ r. Copies g.D.Disk.is_modelled r (shown_on g.D.Disk.life (core_on (string_bytes c.self.inside.name) (state_of c.self.inside.core) (recorder_of c.self.inside.core))) (shown_on g.D.Disk.life (core_on (string_bytes c.self.inside.name) (state_of c.plain.new.self) (recorder_of c.plain.new.self)))) (sym c.told.ensures) is_left.copies)

pub returns-clause-journaled : goal.returns-clause-journaled
returns-clause-journaled g c =
    let going : has_failed (recorder_of c.self.inside.core) ≡ false = search rules in
    let is_left = left_by g.D.Disk.is_modelled g.D.Disk.life (string_bytes c.self.inside.name)
    (record { held_for_doubts = c.doubts_hold_their_decisions.ensures; records_stay = c.records_stay.ensures; calls_made = c.calls_make_records.ensures })
    (state_of c.self.inside.core) (recorder_of c.self.inside.core) c.self.invariant.0 going c.plain.result (state_of c.plain.new.self) c.plain.ensures.state (recorder_of c.plain.new.self) c.plain.ensures.recorder in
    subst (λ (old : OnDisk g.row.D.Denot). Journaled g.D.Disk.is_modelled (shown_on g.D.Disk.life old) (shown_on g.D.Disk.life (core_on (string_bytes c.self.inside.name) (state_of c.plain.new.self) (recorder_of c.plain.new.self)))) c.self.view_is is_left.journaled
