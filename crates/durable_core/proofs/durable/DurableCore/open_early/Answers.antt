use Rattle.std.proofs.Common.{rules, ◌≡◌, true, false, string_bytes, subst, sym}
use Rattle.rdb_core.specs.State.{pages_of, recorder_of, state_of}
use Rattle.paged_tables.proofs.Pages.{pages_stay_themselves}
use Rattle.journal_recorder.specs.Reading.{HasPages}
use Rattle.journal_recorder.specs.Recording.{has_failed}
use Rattle.unit_records.specs.Together.{may_make}
use Rattle.recovery.specs.Journaled.{Journaled, OnDisk, shown_on}
use Rattle.durable_core.specs.Ahead.{StaysAhead}
use Rattle.durable_core.specs.Recorded.{core_on}
use Rattle.durable_core.proofs.Grouping.{allowed, early}
use Rattle.durable_core.proofs.LyingAhead.{closed_left, left_by, same_left}
use Rattle.durable_core.proofs.Paged as pages
use Rattle.durable_core.proofs.durable.DurableCore.open_early.Goals as goal

pub returns-then-is_failed-clause-rests : goal.returns-then-is_failed-clause-rests
returns-then-is_failed-clause-rests g c =
    let failed : has_failed (recorder_of c.self.inside.core) ≡ true = search rules in
    subst (λ (s : OnDisk g.row.D.Denot). StaysAhead g.D.Disk.is_modelled (shown_on g.D.Disk.life s) (shown_on g.D.Disk.life s)) c.self.view_is
    (closed_left g.D.Disk.is_modelled g.D.Disk.life (string_bytes c.self.inside.name) (record { stay = c.groups_stay.ensures; calls = c.calls_make_records.ensures; go_on = c.calls_go_on.ensures })
    (state_of c.self.inside.core) (recorder_of c.self.inside.core) c.self.invariant.0 failed).rests

pub returns-then-is_failed-clause-journaled : goal.returns-then-is_failed-clause-journaled
returns-then-is_failed-clause-journaled g c =
    let failed : has_failed (recorder_of c.self.inside.core) ≡ true = search rules in
    subst (λ (s : OnDisk g.row.D.Denot). Journaled g.D.Disk.is_modelled (shown_on g.D.Disk.life s) (shown_on g.D.Disk.life s)) c.self.view_is
    (closed_left g.D.Disk.is_modelled g.D.Disk.life (string_bytes c.self.inside.name) (record { stay = c.groups_stay.ensures; calls = c.calls_make_records.ensures; go_on = c.calls_go_on.ensures })
    (state_of c.self.inside.core) (recorder_of c.self.inside.core) c.self.invariant.0 failed).journaled

pub returns-then-not-may_make-clause-rests : goal.returns-then-not-may_make-clause-rests
returns-then-not-may_make-clause-rests g c =
    let going : has_failed (recorder_of c.self.inside.core) ≡ false = search rules in
    subst (λ (s : OnDisk g.row.D.Denot). StaysAhead g.D.Disk.is_modelled (shown_on g.D.Disk.life s) (shown_on g.D.Disk.life s)) c.self.view_is
    (same_left g.D.Disk.is_modelled g.D.Disk.life (string_bytes c.self.inside.name) (record { stay = c.groups_stay.ensures; calls = c.calls_make_records.ensures; go_on = c.calls_go_on.ensures })
    (state_of c.self.inside.core) (recorder_of c.self.inside.core) c.self.invariant.0 going).rests

pub returns-then-not-may_make-clause-journaled : goal.returns-then-not-may_make-clause-journaled
returns-then-not-may_make-clause-journaled g c =
    let going : has_failed (recorder_of c.self.inside.core) ≡ false = search rules in
    subst (λ (s : OnDisk g.row.D.Denot). Journaled g.D.Disk.is_modelled (shown_on g.D.Disk.life s) (shown_on g.D.Disk.life s)) c.self.view_is
    (same_left g.D.Disk.is_modelled g.D.Disk.life (string_bytes c.self.inside.name) (record { stay = c.groups_stay.ensures; calls = c.calls_make_records.ensures; go_on = c.calls_go_on.ensures })
    (state_of c.self.inside.core) (recorder_of c.self.inside.core) c.self.invariant.0 going).journaled

pub open_early-opened-requires-clause-allowed : goal.open_early-opened-requires-clause-allowed
open_early-opened-requires-clause-allowed g c =
    let going : has_failed (recorder_of c.self.inside.core) ≡ false = search rules in
    let may : may_make (state_of c.self.inside.core) c.args.calls.now ≡ true = search rules in
    allowed g.D.Disk.is_modelled g.D.Disk.life (string_bytes c.self.inside.name)
    (record {
      keep = c.groups_are_recorded.ensures.keep;
      lead = c.groups_are_recorded.ensures.lead;
      of_doubts = c.groups_are_recorded.ensures.decisions;
      known = c.groups_are_recorded.ensures.known;
      held = c.decisions_of_all_are_held.ensures;
      stay = c.groups_stay.ensures;
      calls = c.calls_make_records.ensures;
      groups = c.calls_make_groups.ensures;
      go_on = c.calls_go_on.ensures;
    })
    (state_of c.self.inside.core) (recorder_of c.self.inside.core) c.self.invariant.0 going c.args.calls.now may

pub open_early-opened-requires-clause-early : goal.open_early-opened-requires-clause-early
open_early-opened-requires-clause-early g c =
    let going : has_failed (recorder_of c.self.inside.core) ≡ false = search rules in
    let may : may_make (state_of c.self.inside.core) c.args.calls.now ≡ true = search rules in
    early g.D.Disk.is_modelled g.D.Disk.life (string_bytes c.self.inside.name)
    (record {
      keep = c.groups_are_recorded.ensures.keep;
      lead = c.groups_are_recorded.ensures.lead;
      of_doubts = c.groups_are_recorded.ensures.decisions;
      known = c.groups_are_recorded.ensures.known;
      held = c.decisions_of_all_are_held.ensures;
      stay = c.groups_stay.ensures;
      calls = c.calls_make_records.ensures;
      groups = c.calls_make_groups.ensures;
      go_on = c.calls_go_on.ensures;
    })
    (state_of c.self.inside.core) (recorder_of c.self.inside.core) c.self.invariant.0 going c.args.calls.now may c.groups_open.ensures g.D.Disk.allows c.requires.early

pub invariant_of-self : goal.invariant_of-self
invariant_of-self g c =
    let going : has_failed (recorder_of c.self.inside.core) ≡ false = search rules in
    let is_left = left_by g.D.Disk.is_modelled g.D.Disk.life (string_bytes c.self.inside.name) (record { stay = c.groups_stay.ensures; calls = c.calls_make_records.ensures; go_on = c.calls_go_on.ensures })
    (state_of c.self.inside.core) (recorder_of c.self.inside.core) c.self.invariant.0 going (state_of c.open_early-opened.new.self) c.open_early-opened.ensures.state
    c.open_early-opened.result (recorder_of c.open_early-opened.new.self) c.open_early-opened.ensures.laid c.open_early-opened.ensures.failed in (
      is_left.recorded,
      subst (λ t. HasPages g.D.Disk.is_modelled g.D.Disk.life (recorder_of c.open_early-opened.new.self) t) (sym c.open_early-opened.ensures.pages)
          (pages.ahead g.D.Disk.is_modelled g.D.Disk.life c.pages_are_kept.ensures (recorder_of c.self.inside.core) (pages_of c.self.inside.core) (pages_of c.self.inside.core) (pages_stay_themselves (pages_of c.self.inside.core)) c.self.invariant.1
          c.open_early-opened.result (recorder_of c.open_early-opened.new.self) c.open_early-opened.ensures.laid c.open_early-opened.ensures.failed),
    )

pub returns-clause-rests : goal.returns-clause-rests
returns-clause-rests g c =
    let going : has_failed (recorder_of c.self.inside.core) ≡ false = search rules in
    subst (λ (old : OnDisk g.row.D.Denot). StaysAhead g.D.Disk.is_modelled (shown_on g.D.Disk.life old) (shown_on g.D.Disk.life (core_on (string_bytes c.self.inside.name) (state_of c.open_early-opened.new.self) (recorder_of c.open_early-opened.new.self)))) c.self.view_is
    (left_by g.D.Disk.is_modelled g.D.Disk.life (string_bytes c.self.inside.name) (record { stay = c.groups_stay.ensures; calls = c.calls_make_records.ensures; go_on = c.calls_go_on.ensures })
    (state_of c.self.inside.core) (recorder_of c.self.inside.core) c.self.invariant.0 going (state_of c.open_early-opened.new.self) c.open_early-opened.ensures.state
    c.open_early-opened.result (recorder_of c.open_early-opened.new.self) c.open_early-opened.ensures.laid c.open_early-opened.ensures.failed).rests

pub returns-clause-journaled : goal.returns-clause-journaled
returns-clause-journaled g c =
    let going : has_failed (recorder_of c.self.inside.core) ≡ false = search rules in
    subst (λ (old : OnDisk g.row.D.Denot). Journaled g.D.Disk.is_modelled (shown_on g.D.Disk.life old) (shown_on g.D.Disk.life (core_on (string_bytes c.self.inside.name) (state_of c.open_early-opened.new.self) (recorder_of c.open_early-opened.new.self)))) c.self.view_is
    (left_by g.D.Disk.is_modelled g.D.Disk.life (string_bytes c.self.inside.name) (record { stay = c.groups_stay.ensures; calls = c.calls_make_records.ensures; go_on = c.calls_go_on.ensures })
    (state_of c.self.inside.core) (recorder_of c.self.inside.core) c.self.invariant.0 going (state_of c.open_early-opened.new.self) c.open_early-opened.ensures.state
    c.open_early-opened.result (recorder_of c.open_early-opened.new.self) c.open_early-opened.ensures.laid c.open_early-opened.ensures.failed).journaled
