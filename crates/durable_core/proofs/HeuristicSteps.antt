-- What a heuristic decision makes of a core and of who records: it stays recorded.
use Rattle.std.proofs.Common.{◌≡◌, inl, inr, ℕ, ◌≤◌, Bool, false, List, Some, Result, Ok, Err, IfErr, OnErr, OnOk, refl, sym, subst}
use Rattle.drda_disk.specs.Disk.{Life}
use Rattle.half_store.specs.declared.header.Layout.{Layout}
use Rattle.half_store.specs.declared.header.Layout.TheVariants.{Two}
use Rattle.xa_manager.specs.declared.branch.BranchState.TheVariants.{Prepared}
use Rattle.xa_manager.specs.declared.due.Decision.{Decision}
use Rattle.xa_manager.specs.Branch.{state_of}
use Rattle.core_model.specs.Step.{CoreState, decided_state}
use Rattle.unit_records.specs.Records.{UnitRecord, heuristic}
use Rattle.unit_records.specs.Room.{released}
use Rattle.unit_records.specs.declared.record_error.RecordError.{RecordError}
use Rattle.unit_records.specs.declared.record_error.RecordError.TheVariants.{DeviceFailed, Full, NoMemory}
use Rattle.recovery.specs.Durable.{next}
use Rattle.recovery.specs.Known.{IsKnown, Releases}
use Rattle.recovery.specs.Laws.{held_for}
use Rattle.recovery.specs.Part.{durable_part}
use Rattle.recovery.specs.StepLaws.{DecisionsKeep, DecisionsLead, HeuristicsAreOfDoubts}
use Rattle.recovery.specs.Journaled.{Journaled, shown_on}
use Rattle.journal_recorder.specs.Recording.{Allows, Fails, Records, has_failed, layout_of}
use Rattle.journal_recorder.specs.declared.recorder.DiskRecorder.{DiskRecorder}
use Rattle.rdb_core.specs.Recorded as told
use Rattle.durable_core.specs.Recorded.{IsOnDisk, IsRecorded, core_on}
use Rattle.durable_core.proofs.Recording.{Laws, left_journaled, left_recorded, record_journaled, record_recorded, silent_journaled}

-- the laws of heuristic decisions
pub record DecisionLaws {D : Type 0} (life : D → Life) : Type 0 where
  pub keep : DecisionsKeep
  pub lead : DecisionsLead
  pub of_doubts : HeuristicsAreOfDoubts
  pub laws : Laws life

module _ {D : Type 0} (modelled : Bool) (life : D → Life) (name : List ℕ) (all : DecisionLaws life) (s : CoreState) (r : DiskRecorder D) (is : IsRecorded modelled life name s r) (going : has_failed r ≡ false)
    (layout : layout_of r ≡ Two) (xid : List ℕ) (d : Decision) (waits : state_of s.branches xid ≡ Some Prepared) where
  abbrev said : UnitRecord
  said = heuristic xid d

  abbrev behind : CoreState
  behind = decided_state s xid d

  leads : next (durable_part s) said ≡ Some (durable_part behind)
  leads = all.lead s xid d is.kept waits

  known : IsOnDisk modelled life name s r → IsKnown (layout_of r) said
  known there = subst (λ (l : Layout). IsKnown l said) (sym layout) refl

  releases : Releases (layout_of r) (durable_part s) said
  releases = subst (λ (l : Layout). Releases l (durable_part s) said) (sym layout) (all.of_doubts s xid d is.kept waits).1

  pub allowed : Allows modelled life r said
  allowed = record {
    going = going;
    inside = is.inside;
    released_is_held = subst (λ (n : ℕ). released (layout_of r) said ≤ n) (sym is.held)
        (subst (λ (l : Layout). released l said ≤ held_for l (durable_part s).doubts) (sym layout) (all.of_doubts s xid d is.kept waits).0);
  }

  -- what is left of the core
  pub record IsLeft (new : CoreState) (after : DiskRecorder D) : Type 0 where
    pub recorded : IsRecorded modelled life name new after
    pub journaled : Journaled modelled (shown_on life (core_on name s r)) (shown_on life (core_on name new after))

  done : (after : DiskRecorder D) → Records modelled life r said after → IsLeft behind after
  done after made = record {
    recorded = record_recorded modelled life name all.laws s r is going behind said leads known releases after made (all.keep s xid d is.kept waits);
    journaled = record_journaled modelled life name all.laws s r is going behind said leads known releases after made;
  }

  same_left : IsLeft s r
  same_left = record { recorded = is; journaled = silent_journaled modelled life name all.laws s r is going s refl }

  refused_by : (fault : RecordError) (after : DiskRecorder D) → Fails modelled life r said fault after → IsLeft s after
  refused_by NoMemory after same = subst (λ (x : DiskRecorder D). IsLeft s x) (sym same) same_left
  refused_by (Full need room) after no_room = subst (λ (x : DiskRecorder D). IsLeft s x) (sym no_room.0) same_left
  refused_by DeviceFailed after left = record {
    recorded = left_recorded modelled life name all.laws s r is going behind said leads known releases after left;
    journaled = left_journaled modelled life name all.laws s r is going behind said leads known releases after left;
  }

  the_record : (p q : UnitRecord) → Some p ≡ Some q → p ≡ q
  the_record p q same = cc

  kept_by : (fault : RecordError) (after : DiskRecorder D) → told.Refuses (Fails modelled life) (Some said) fault r after → IsLeft s after
  kept_by fault after (inl out) = subst (λ (x : DiskRecorder D). IsLeft s x) (sym out.recorder) same_left
  kept_by fault after (inr refused) =
      refused_by fault after (subst (λ (q : UnitRecord). Fails modelled life r q fault after) (sym (the_record said refused.record_is refused.due_is)) refused.failed)

  -- whatever the core answers
  pub left_by : {X : Type 0} (result : Result X RecordError) (new : CoreState) (after : DiskRecorder D) → OnOk result (new ≡ behind) → OnOk result (Records modelled life r said after)
      → OnErr result (new ≡ s) → IfErr result (λ fault. told.Refuses (Fails modelled life) (Some said) fault r after) → IsLeft new after
  left_by (Ok x) new after is_new made same refused = subst (λ (n : CoreState). IsLeft n after) (sym is_new) (done after made)
  left_by (Err fault) new after is_new made same refused = subst (λ (n : CoreState). IsLeft n after) (sym same) (kept_by fault after refused)
