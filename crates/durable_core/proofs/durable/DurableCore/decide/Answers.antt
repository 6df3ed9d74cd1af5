use Rattle.std.proofs.Common.{rules, ◌≡◌, true, false, Some, refl, string_bytes, subst}
use Rattle.half_store.specs.declared.header.Layout.TheVariants.{Two}
use Rattle.xa_manager.specs.declared.branch.BranchState.TheVariants.{Prepared}
use Rattle.xa_manager.specs.Branch.{state_of as branch_of}
use Rattle.unit_records.specs.Records.{heuristic}
use Rattle.rdb_core.specs.State.{pages_of, recorder_of, state_of}
use Rattle.journal_recorder.specs.Recording.{has_failed, layout_of}
use Rattle.recovery.specs.Journaled.{Journaled, OnDisk, shown_on}
use Rattle.durable_core.specs.Recorded.{core_on}
use Rattle.durable_core.proofs.HeuristicSteps.{allowed, left_by}
use Rattle.durable_core.proofs.Paged as pages
use Rattle.durable_core.proofs.Recording.{stays_failed}
use Rattle.durable_core.proofs.Switching.{untouched_journaled}
use Rattle.durable_core.proofs.durable.DurableCore.decide.Goals as goal

pub returns-then-is_failed-clause-journaled : goal.returns-then-is_failed-clause-journaled
returns-then-is_failed-clause-journaled g c =
    let failed : has_failed (recorder_of c.self.inside.core) ≡ true = search rules in
    subst (λ (s : OnDisk g.row.D.Denot). Journaled g.D.Disk.is_modelled (shown_on g.D.Disk.life s) (shown_on g.D.Disk.life s)) c.self.view_is
    (stays_failed g.D.Disk.is_modelled g.D.Disk.life c.calls_make_records.ensures (core_on (string_bytes c.self.inside.name) (state_of c.self.inside.core) (recorder_of c.self.inside.core)) failed)

pub returns-in-One-clause-journaled : goal.returns-in-One-clause-journaled
returns-in-One-clause-journaled g c =
    let going : has_failed (recorder_of c.self.inside.core) ≡ false = search rules in
    subst (λ (s : OnDisk g.row.D.Denot). Journaled g.D.Disk.is_modelled (shown_on g.D.Disk.life s) (shown_on g.D.Disk.life s)) c.self.view_is
    (untouched_journaled g.D.Disk.is_modelled g.D.Disk.life (string_bytes c.self.inside.name) c.calls_make_records.ensures (state_of c.self.inside.core) (state_of c.self.inside.core) (recorder_of c.self.inside.core) c.self.invariant.0 going refl)

pub returns-then-not-is_prepared-clause-journaled : goal.returns-then-not-is_prepared-clause-journaled
returns-then-not-is_prepared-clause-journaled g c =
    let going : has_failed (recorder_of c.self.inside.core) ≡ false = search rules in
    subst (λ (s : OnDisk g.row.D.Denot). Journaled g.D.Disk.is_modelled (shown_on g.D.Disk.life s) (shown_on g.D.Disk.life s)) c.self.view_is
    (untouched_journaled g.D.Disk.is_modelled g.D.Disk.life (string_bytes c.self.inside.name) c.calls_make_records.ensures (state_of c.self.inside.core) (state_of c.self.inside.core) (recorder_of c.self.inside.core) c.self.invariant.0 going refl)

pub decide-requires-clause-allowed : goal.decide-requires-clause-allowed
decide-requires-clause-allowed g c =
    let going : has_failed (recorder_of c.self.inside.core) ≡ false = search rules in
    let layout : layout_of (recorder_of c.self.inside.core) ≡ Two = search rules in
    let waits : branch_of (state_of c.self.inside.core).branches c.args.xid.now ≡ Some Prepared = search rules in
    allowed g.D.Disk.is_modelled g.D.Disk.life (string_bytes c.self.inside.name)
    (record {
      keep = c.heuristics_are_recorded.ensures.keep;
      lead = c.heuristics_are_recorded.ensures.lead;
      of_doubts = c.heuristics_are_recorded.ensures.held;
      laws = record { held_for_doubts = c.doubts_hold_their_decisions.ensures; records_stay = c.records_stay.ensures; calls_made = c.calls_make_records.ensures };
    })
    (state_of c.self.inside.core) (recorder_of c.self.inside.core) c.self.invariant.0 going layout c.args.xid.now c.args.decision waits

pub invariant_of-self : goal.invariant_of-self
invariant_of-self g c =
    let going : has_failed (recorder_of c.self.inside.core) ≡ false = search rules in
    let layout : layout_of (recorder_of c.self.inside.core) ≡ Two = search rules in
    let waits : branch_of (state_of c.self.inside.core).branches c.args.xid.now ≡ Some Prepared = search rules in
    let is_left = left_by g.D.Disk.is_modelled g.D.Disk.life (string_bytes c.self.inside.name)
    (record {
      keep = c.heuristics_are_recorded.ensures.keep;
      lead = c.heuristics_are_recorded.ensures.lead;
      of_doubts = c.heuristics_are_recorded.ensures.held;
      laws = record { held_for_doubts = c.doubts_hold_their_decisions.ensures; records_stay = c.records_stay.ensures; calls_made = c.calls_make_records.ensures };
    })
    (state_of c.self.inside.core) (recorder_of c.self.inside.core) c.self.invariant.0 going layout c.args.xid.now c.args.decision waits c.decide.result (state_of c.decide.new.self) (recorder_of c.decide.new.self)
    c.decide.ensures.done c.decide.ensures.recorded c.decide.ensures.kept c.decide.ensures.refused in (
      is_left.recorded,
      pages.either g.D.Disk.is_modelled g.D.Disk.life c.pages_are_kept.ensures (recorder_of c.self.inside.core) (pages_of c.self.inside.core) (pages_of c.decide.new.self) c.decide.ensures.pages c.self.invariant.1
          c.decide.result (Some (heuristic c.args.xid.now c.args.decision)) (recorder_of c.decide.new.self) c.decide.ensures.recorded c.decide.ensures.refused,
    )

pub returns-clause-journaled : goal.returns-clause-journaled
returns-clause-journaled g c =
    let going : has_failed (recorder_of c.self.inside.core) ≡ false = search rules in
    let layout : layout_of (recorder_of c.self.inside.core) ≡ Two = search rules in
    let waits : branch_of (state_of c.self.inside.core).branches c.args.xid.now ≡ Some Prepared = search rules in
    subst (λ (old : OnDisk g.row.D.Denot). Journaled g.D.Disk.is_modelled (shown_on g.D.Disk.life old) (shown_on g.D.Disk.life (core_on (string_bytes c.self.inside.name) (state_of c.decide.new.self) (recorder_of c.decide.new.self)))) c.self.view_is
    (left_by g.D.Disk.is_modelled g.D.Disk.life (string_bytes c.self.inside.name)
    (record {
      keep = c.heuristics_are_recorded.ensures.keep;
      lead = c.heuristics_are_recorded.ensures.lead;
      of_doubts = c.heuristics_are_recorded.ensures.held;
      laws = record { held_for_doubts = c.doubts_hold_their_decisions.ensures; records_stay = c.records_stay.ensures; calls_made = c.calls_make_records.ensures };
    })
    (state_of c.self.inside.core) (recorder_of c.self.inside.core) c.self.invariant.0 going layout c.args.xid.now c.args.decision waits c.decide.result (state_of c.decide.new.self) (recorder_of c.decide.new.self)
    c.decide.ensures.done c.decide.ensures.recorded c.decide.ensures.kept c.decide.ensures.refused).journaled
