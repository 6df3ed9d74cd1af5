use Rattle.std.proofs.Common.{rules, ◌≡◌, true, false, string_bytes, refl, subst}
use Rattle.rdb_core.specs.State.{pages_of, recorder_of, state_of}
use Rattle.paged_tables.proofs.Pages.{pages_stay_themselves}
use Rattle.journal_recorder.specs.Recording.{has_failed}
use Rattle.recovery.specs.Journaled.{Journaled, OnDisk, shown_on}
use Rattle.durable_core.specs.Ahead.{StaysAhead}
use Rattle.durable_core.specs.Recorded.{core_on}
use Rattle.durable_core.proofs.LyingAhead.{closed_left, left_by}
use Rattle.durable_core.proofs.Paged as pages
use Rattle.durable_core.proofs.durable.DurableCore.settle.Goals as goal

pub returns-then-is_failed-clause-rests : goal.returns-then-is_failed-clause-rests
returns-then-is_failed-clause-rests g c =
    let failed : has_failed (recorder_of c.self.inside.core) ≡ true = search rules in
    subst (λ (s : OnDisk g.row.D.Denot). StaysAhead g.D.Disk.is_modelled (shown_on g.D.Disk.life s) (shown_on g.D.Disk.life s)) c.self.view_is
    (closed_left g.D.Disk.is_modelled g.D.Disk.life (string_bytes c.self.inside.name) (record { stay = c.groups_stay.ensures; calls = c.calls_make_records.ensures; go_on = c.calls_go_on.ensures })
    (state_of c.self.inside.core) (recorder_of c.self.inside.core) c.self.invariant.0 failed).rests

pub returns-then-is_failed-clause-journaled : goal.returns-then-is_failed-clause-journaled
returns-then-is_failed-clause-journaled g c =
    let failed : has_failed (recorder_of c.self.inside.core) ≡ true = search rules in
    subst (λ (s : OnDisk g.row.D.Denot). Journaled g.D.Disk.is_modelled (shown_on g.D.Disk.life s) (shown_on g.D.Disk.life s)) c.self.view_is
    (closed_left g.D.Disk.is_modelled g.D.Disk.life (string_bytes c.self.inside.name) (record { stay = c.groups_stay.ensures; calls = c.calls_make_records.ensures; go_on = c.calls_go_on.ensures })
    (state_of c.self.inside.core) (recorder_of c.self.inside.core) c.self.invariant.0 failed).journaled

pub invariant_of-self : goal.invariant_of-self
invariant_of-self g c =
    let going : has_failed (recorder_of c.self.inside.core) ≡ false = search rules in
    let is_left = left_by g.D.Disk.is_modelled g.D.Disk.life (string_bytes c.self.inside.name) (record { stay = c.groups_stay.ensures; calls = c.calls_make_records.ensures; go_on = c.calls_go_on.ensures })
    (state_of c.self.inside.core) (recorder_of c.self.inside.core) c.self.invariant.0 going (state_of c.self.inside.core) refl
    c.settle-settled.result c.settle-settled.new.self c.settle-settled.ensures.ok c.settle-settled.ensures.err in (
      is_left.recorded,
      pages.ahead g.D.Disk.is_modelled g.D.Disk.life c.pages_are_kept.ensures (recorder_of c.self.inside.core) (pages_of c.self.inside.core) (pages_of c.self.inside.core) (pages_stay_themselves (pages_of c.self.inside.core)) c.self.invariant.1
          c.settle-settled.result c.settle-settled.new.self c.settle-settled.ensures.ok c.settle-settled.ensures.err,
    )

pub returns-clause-rests : goal.returns-clause-rests
returns-clause-rests g c =
    let going : has_failed (recorder_of c.self.inside.core) ≡ false = search rules in
    subst (λ (old : OnDisk g.row.D.Denot). StaysAhead g.D.Disk.is_modelled (shown_on g.D.Disk.life old) (shown_on g.D.Disk.life (core_on (string_bytes c.self.inside.name) (state_of c.self.inside.core) c.settle-settled.new.self))) c.self.view_is
    (left_by g.D.Disk.is_modelled g.D.Disk.life (string_bytes c.self.inside.name) (record { stay = c.groups_stay.ensures; calls = c.calls_make_records.ensures; go_on = c.calls_go_on.ensures })
    (state_of c.self.inside.core) (recorder_of c.self.inside.core) c.self.invariant.0 going (state_of c.self.inside.core) refl
    c.settle-settled.result c.settle-settled.new.self c.settle-settled.ensures.ok c.settle-settled.ensures.err).rests

pub returns-clause-journaled : goal.returns-clause-journaled
returns-clause-journaled g c =
    let going : has_failed (recorder_of c.self.inside.core) ≡ false = search rules in
    subst (λ (old : OnDisk g.row.D.Denot). Journaled g.D.Disk.is_modelled (shown_on g.D.Disk.life old) (shown_on g.D.Disk.life (core_on (string_bytes c.self.inside.name) (state_of c.self.inside.core) c.settle-settled.new.self))) c.self.view_is
    (left_by g.D.Disk.is_modelled g.D.Disk.life (string_bytes c.self.inside.name) (record { stay = c.groups_stay.ensures; calls = c.calls_make_records.ensures; go_on = c.calls_go_on.ensures })
    (state_of c.self.inside.core) (recorder_of c.self.inside.core) c.self.invariant.0 going (state_of c.self.inside.core) refl
    c.settle-settled.result c.settle-settled.new.self c.settle-settled.ensures.ok c.settle-settled.ensures.err).journaled
