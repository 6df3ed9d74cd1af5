-- What a call of the core makes of it and of who records and reads: it stays recorded, and each answer is one of `Steps`.
use Rattle.std.proofs.Common.{◌≡◌, inl, inr, ℕ, ◌+◌, ◌-◌, ◌^◌, ◌≤◌, min, Bool, true, false, List, Option, Some, None, refl, sym, ◌∙◌, ap, subst}
use Rattle.drda_disk.specs.Disk.{Life}
use Rattle.unit_journal.specs.Journal.{room_of}
use Rattle.unit_journal.specs.declared.journal.Journal.{Journal}
use Rattle.unit_records.specs.MadeRecords.{with_done}
use Rattle.unit_records.specs.Records.{UnitRecord}
use Rattle.unit_records.specs.Room.{held, released, taken}
use Rattle.recovery.specs.Durable.{next}
use Rattle.core_calls.specs.Call.{Call}
use Rattle.core_calls.specs.Answer.{Answer, closed, no_memory}
use Rattle.core_model.specs.Step.{CoreState, answer, step_state}
use Rattle.unit_records.specs.Due.{record_due}
use Rattle.unit_records.specs.declared.record_error.RecordError.{RecordError}
use Rattle.unit_records.specs.declared.record_error.RecordError.TheVariants as error
use Rattle.recovery.specs.Known.{IsKnown, Releases}
use Rattle.recovery.specs.Part.{durable_part}
use Rattle.recovery.specs.StepLaws.{DecisionsAreOfDoubts, DueAreKnown, MisreadsKeep, MisreadsStay, RecordsLead, SilentStepsStay, StepsKeep}
use Rattle.journal_recorder.specs.Recording.{Allows, Fails, IsLeftOpen, Records, has_failed, journal_of, layout_of, made_of}
use Rattle.journal_recorder.specs.declared.recorder.DiskRecorder.{DiskRecorder}
use Rattle.recovery.specs.Journaled.{Journaled, shown_on}
use Rattle.rdb_core.specs.Recorded as told
use Rattle.rdb_core.specs.Steps as core
use Rattle.durable_core.specs.Recorded.{IsOnDisk, IsRecorded, core_on}
use Rattle.durable_core.specs.Steps.{IsClosed, MayWantMemory, RoomAfter, Steps, due_groups}
use Rattle.durable_core.proofs.Recording.{Laws, left_journaled, left_recorded, nothing_done, record_journaled, record_recorded, only_read, rests, silent_journaled, silent_recorded, unchanged, untouched}

-- the laws of steps
pub record StepLaws {D : Type 0} (life : D → Life) : Type 0 where
  pub keep : StepsKeep
  pub silent : SilentStepsStay
  pub lead : RecordsLead
  pub of_doubts : DecisionsAreOfDoubts
  pub known : DueAreKnown
  pub misread_keep : MisreadsKeep
  pub misread_stays : MisreadsStay
  pub laws : Laws life

module _ {D : Type 0} (modelled : Bool) (life : D → Life) (name : List ℕ) where
  -- what became of a call of a core
  pub record IsDone (s : CoreState) (r : DiskRecorder D) (conversation : ℕ) (k : Call) (said : Answer) (new : CoreState) (after : DiskRecorder D) : Type 0 where
    pub recorded : IsRecorded modelled life name new after
    pub steps : Steps modelled (shown_on life (core_on name s r)) conversation k said (shown_on life (core_on name new after))
    pub journaled : Journaled modelled (shown_on life (core_on name s r)) (shown_on life (core_on name new after))

  module _ (all : StepLaws life) (s : CoreState) (r : DiskRecorder D) (is : IsRecorded modelled life name s r) where
    -- once it has failed nothing is done
    pub is_closed : has_failed r ≡ true → IsClosed (shown_on life (core_on name s r)) closed (shown_on life (core_on name s r))
    is_closed is_failed = record { failed = is_failed; answer_is = refl; same = unchanged modelled life name s r }

    module _ (going : has_failed r ≡ false) (conversation : ℕ) (k : Call) where
      -- what a record asks for
      pub allowed : (said : UnitRecord) → record_due s conversation k ≡ Some said → Allows modelled life r said
      allowed said due = record {
        going = going;
        inside = is.inside;
        released_is_held = subst (λ (n : ℕ). released (layout_of r) said ≤ n) (sym is.held) (all.of_doubts (layout_of r) s conversation k said is.kept due).0;
      }

      -- ---- no record

      silent_step : record_due s conversation k ≡ None → IsDone s r conversation k (answer s.branches s.base conversation k) (step_state s conversation k) r
      silent_step none =
          let same : durable_part (step_state s conversation k) ≡ durable_part s = all.silent s conversation k is.kept none in
          record {
            recorded = silent_recorded modelled life name all.laws s r is going (step_state s conversation k) same (all.keep s conversation k is.kept);
            steps = inl (record {
              going = going;
              answer_is = refl;
              state = refl;
              layout = refl;
              room = subst (λ (o : Option UnitRecord). RoomAfter (layout_of r) o (room_of (journal_of r)) (room_of (journal_of r))) (sym none) refl;
              faults = refl;
              still = going;
              made = nothing_done (made_of r) ∙ ap (λ (o : Option UnitRecord). with_done (made_of r) (due_groups o)) (sym none);
            });
            journaled = silent_journaled modelled life name all.laws s r is going (step_state s conversation k) same;
          }

      out_of_memory : MayWantMemory s conversation k → IsDone s r conversation k no_memory s r
      out_of_memory wanting = record {
        recorded = is;
        steps = inr (inr (inl (record {
          going = going;
          wanting = wanting;
          answer_is = refl;
          same = only_read modelled life name s r r (rests modelled life name r) refl refl;
          untouched = λ none. untouched modelled life name r;
        })));
        journaled = silent_journaled modelled life name all.laws s r is going s refl;
      }

      -- ---- a record

      module _ (said : UnitRecord) (due : record_due s conversation k ≡ Some said) where
        leads : next (durable_part s) said ≡ Some (durable_part (step_state s conversation k))
        leads = all.lead s conversation k said is.kept due

        known : IsOnDisk modelled life name s r → IsKnown (layout_of r) said
        known there = all.known (layout_of r) there.holds.checkpoint there.entries s conversation k said there.holds.known there.holds.leads is.kept due

        releases : Releases (layout_of r) (durable_part s) said
        releases = (all.of_doubts (layout_of r) s conversation k said is.kept due).1

        recorded_step : (after : DiskRecorder D) → Records modelled life r said after → IsDone s r conversation k (answer s.branches s.base conversation k) (step_state s conversation k) after
        recorded_step after made = record {
          recorded = record_recorded modelled life name all.laws s r is going (step_state s conversation k) said leads known releases after made (all.keep s conversation k is.kept);
          steps = inl (record {
            going = going;
            answer_is = refl;
            state = refl;
            layout = made.layout;
            room = subst (λ (o : Option UnitRecord). RoomAfter (layout_of r) o (room_of (journal_of r)) (room_of (journal_of after))) (sym due) made.room;
            faults = made.faults;
            still = made.going;
            made = made.made ∙ ap (λ (o : Option UnitRecord). with_done (made_of r) (due_groups o)) (sym due);
          });
          journaled = record_journaled modelled life name all.laws s r is going (step_state s conversation k) said leads known releases after made;
        }

        -- the device failed
        failed_step : (after : DiskRecorder D) → IsLeftOpen modelled life r said after → IsDone s r conversation k (told.refusal_answer error.DeviceFailed) s after
        failed_step after left = record {
          recorded = left_recorded modelled life name all.laws s r is going (step_state s conversation k) said leads known releases after left;
          steps = inr (inr (inr (inr (inl (record {
            going = going;
            record_is = said;
            due = due;
            answer_is = refl;
            name = refl;
            state = refl;
            layout = left.layout;
            room = ap (λ (j : Journal). room_of j) left.journal;
            faults = left.faults;
            failed = left.failed;
            begun = left.begun;
          })))));
          journaled = left_journaled modelled life name all.laws s r is going (step_state s conversation k) said leads known releases after left;
        }

        some_is_due : record_due s conversation k ≡ None → ⊥
        some_is_due none = let both : Some said ≡ None = sym due ∙ none in absurd (cc both)

        -- a record that is refused
        refused_by : (fault : RecordError) (after : DiskRecorder D) → Fails modelled life r said fault after → IsDone s r conversation k (told.refusal_answer fault) s after
        refused_by error.NoMemory after same = subst (λ (x : DiskRecorder D). IsDone s r conversation k no_memory s x) (sym same) (out_of_memory (inr some_is_due))
        refused_by (error.Full need room) after no_room =
            let at_need : told.refusal_answer (error.Full need room) ≡ told.refusal_answer (error.Full (min (taken said + held (layout_of r) said - released (layout_of r) said) (2 ^ 64 - 1)) (room_of (journal_of r)))
            = ap (λ (n : ℕ). told.refusal_answer (error.Full n room)) no_room.1.need_is ∙ ap (λ (n : ℕ). told.refusal_answer (error.Full (min (taken said + held (layout_of r) said - released (layout_of r) said) (2 ^ 64 - 1)) n)) no_room.1.room_is in
            subst (λ (x : DiskRecorder D). IsDone s r conversation k (told.refusal_answer (error.Full need room)) s x) (sym no_room.0) (record {
              recorded = is;
              steps = inr (inr (inr (inl (record { going = going; record_is = said; due = due; answer_is = at_need; less = no_room.1.less; same = unchanged modelled life name s r }))));
              journaled = silent_journaled modelled life name all.laws s r is going s refl;
            })
        refused_by error.DeviceFailed after left = failed_step after left

      -- ---- each answer of the core

      taken_by : (o : Option UnitRecord) → record_due s conversation k ≡ o → (after : DiskRecorder D) → told.IsRecorded (Records modelled life) o r after
          → IsDone s r conversation k (answer s.branches s.base conversation k) (step_state s conversation k) after
      taken_by None none after same = subst (λ (x : DiskRecorder D). IsDone s r conversation k (answer s.branches s.base conversation k) (step_state s conversation k) x) (sym same) (silent_step none)
      taken_by (Some said) due after made = recorded_step said due after made

      pub taken_step : (said : Answer) (new : CoreState) (after : DiskRecorder D) → core.Takes (Records modelled life) s conversation k said new r after → IsDone s r conversation k said new after
      taken_step said new after takes =
          subst (λ (a : Answer). IsDone s r conversation k a new after) (sym takes.taken.answer_is)
          (subst (λ (n : CoreState). IsDone s r conversation k (answer s.branches s.base conversation k) n after) (sym takes.taken.state) (taken_by (record_due s conversation k) refl after takes.recorded))

      -- what the core is sure to do
      module _ (said : Answer) (new : CoreState) (after : DiskRecorder D) (sure : core.may_want_any s conversation k ≡ false → record_due s conversation k ≡ None → core.Takes (Records modelled life) s conversation k said new r after) where
        pub unless_sure : (wants : Bool) (o : Option UnitRecord) → core.may_want_any s conversation k ≡ wants → record_due s conversation k ≡ o
            → (MayWantMemory s conversation k → IsDone s r conversation k said new after) → IsDone s r conversation k said new after
        unless_sure true o wants due otherwise = otherwise (inl wants)
        unless_sure false None wants due otherwise = taken_step said new after (sure wants due)
        unless_sure false (Some record_is) wants due otherwise = otherwise (inr (some_is_due record_is due))

        kept_by : (fault : RecordError) → said ≡ told.refusal_answer fault → new ≡ s → told.Refuses (Fails modelled life) (record_due s conversation k) fault r after → IsDone s r conversation k said new after
        kept_by fault answer_is same (inl out) = unless_sure (core.may_want_any s conversation k) (record_due s conversation k) refl refl (λ wanting.
            subst (λ (a : Answer). IsDone s r conversation k a new after) (sym (answer_is ∙ ap (λ (f : RecordError). told.refusal_answer f) out.fault_is))
            (subst (λ (n : CoreState). IsDone s r conversation k no_memory n after) (sym same)
            (subst (λ (x : DiskRecorder D). IsDone s r conversation k no_memory s x) (sym out.recorder) (out_of_memory wanting))))
        kept_by fault answer_is same (inr refused) =
            subst (λ (a : Answer). IsDone s r conversation k a new after) (sym answer_is)
            (subst (λ (n : CoreState). IsDone s r conversation k (told.refusal_answer fault) n after) (sym same) (refused_by refused.record_is refused.due_is fault after refused.failed))

        pub plain_step : core.Steps (Records modelled life) (Fails modelled life) s conversation k said new r after → IsDone s r conversation k said new after
        plain_step (inl takes) = taken_step said new after takes
        plain_step (inr kept) = kept_by kept.fault kept.answer_is kept.state kept.cause
