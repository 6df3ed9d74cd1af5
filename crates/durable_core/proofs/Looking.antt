-- What a statement makes of a core and of who records and reads, where rows are read ahead of it: it stays recorded, and each
-- answer is one of `Steps`.
use Rattle.std.proofs.Common.{◌≡◌, ◌⊎◌, inl, inr, ℕ, ◌+◌, Bool, IsTrue, true, false, List, Option, None, Err, refl, sym, ◌∙◌, ap, subst}
use Rattle.std.proofs.lemmas.Bool.{false≢true}
use Rattle.drda_disk.specs.Disk.{Life}
use Rattle.unit_journal.specs.Journal.{room_of}
use Rattle.unit_journal.specs.Staged.{journal_of as journal_in}
use Rattle.unit_journal.specs.declared.staged.Staged.{Staged}
use Rattle.unit_records.specs.Due.{record_due}
use Rattle.unit_records.specs.MadeRecords.{with_done}
use Rattle.unit_records.specs.Records.{UnitRecord}
use Rattle.core_calls.specs.Answer.{Answer, device_failed, no_memory}
use Rattle.core_calls.specs.Call as call
use Rattle.core_calls.specs.Call.{Call}
use Rattle.core_model.specs.Misread.{Misreads, reads_rows}
use Rattle.core_model.specs.Step.{CoreState, answer, step_state}
use Rattle.ahead_view.specs.Source.{LeavesReader}
use Rattle.ahead_view.specs.declared.source.ReadError.{ReadError}
use Rattle.ahead_view.specs.declared.source.ReadError.TheVariants as error
use Rattle.recovery.specs.Part.{durable_part}
use Rattle.journal_recorder.specs.Reading.{FailsToRead, Reads}
use Rattle.journal_recorder.specs.Recording.{Fails, Records, disk_of, has_failed, journal_of, layout_of, made_of}
use Rattle.journal_recorder.specs.declared.recorder.DiskRecorder.{DiskRecorder}
use Rattle.rdb_core.specs.Looks as core
use Rattle.rdb_core.specs.Steps.{IsTaken, Takes, may_want_any}
use Rattle.durable_core.specs.Recorded.{IsRecorded}
use Rattle.durable_core.specs.Steps.{MayWantMemory, RoomAfter, due_groups}
use Rattle.durable_core.proofs.Recording.{RestsOn, no_faults, nothing_done, only_read, read_journaled, read_recorded, some_fault}
use Rattle.durable_core.proofs.Stepping.{IsDone, StepLaws, plain_step, unless_sure}

-- no record is due of a statement
none_due : (s : CoreState) (conversation : ℕ) (k : Call) → reads_rows k ≡ true → record_due s conversation k ≡ None
none_due s conversation (call.run t params) reading = refl
none_due s conversation (call.query t params) reading = refl
none_due s conversation (call.describe t side) reading = absurd (false≢true reading)
none_due s conversation call.commit reading = absurd (false≢true reading)
none_due s conversation call.roll_back reading = absurd (false≢true reading)
none_due s conversation (call.xa r) reading = absurd (false≢true reading)
none_due s conversation call.lost reading = absurd (false≢true reading)

module _ {D : Type 0} (modelled : Bool) (life : D → Life) (name : List ℕ) (all : StepLaws life) (s : CoreState) (r : DiskRecorder D) (is : IsRecorded modelled life name s r)
    (going : has_failed r ≡ false) (conversation : ℕ) (k : Call) where
  module _ (reading : reads_rows k ≡ true) where
    none : record_due s conversation k ≡ None
    none = none_due s conversation k reading

    reading_no : reads_rows k ≡ false → ⊥
    reading_no no_rows = false≢true (sym no_rows ∙ reading)

    -- ---- rows were read, or memory was refused

    module _ (after : DiskRecorder D) (read : Reads modelled life r after) where
      rests : RestsOn life r after
      rests = record { disk = read.stays; staged = read.staged; layout = read.layout; made = read.made }

      still : has_failed after ≡ false
      still = read.failed ∙ going

      read_step : IsDone modelled life name s r conversation k (answer s.branches s.base conversation k) (step_state s conversation k) after
      read_step =
          let same : durable_part (step_state s conversation k) ≡ durable_part s = all.silent s conversation k is.kept none in
          record {
            recorded = read_recorded modelled life name all.laws s r is going (step_state s conversation k) same after rests (all.keep s conversation k is.kept);
            steps = inl (record {
              going = going;
              answer_is = refl;
              state = refl;
              layout = read.layout;
              room = subst (λ (o : Option UnitRecord). RoomAfter (layout_of r) o (room_of (journal_of r)) (room_of (journal_of after))) (sym none) (ap (λ (s : Staged). room_of (journal_in s)) read.staged);
              faults = read.faults;
              still = still;
              made = read.made ∙ nothing_done (made_of r) ∙ ap (λ (o : Option UnitRecord). with_done (made_of r) (due_groups o)) (sym none);
            });
            journaled = read_journaled modelled life name all.laws s r is going (step_state s conversation k) same after rests (no_faults modelled (has_failed after) (life (disk_of r)).faults (life (disk_of after)).faults still read.faults);
          }

      -- other rows of the tables were given
      misread_step : modelled ≡ false → (said : Answer) (new : CoreState) → Misreads s conversation k said new → IsDone modelled life name s r conversation k said new after
      misread_step untold said new misread =
          let same : durable_part new ≡ durable_part s = all.misread_stays s new conversation k said is.kept misread in
          record {
            recorded = read_recorded modelled life name all.laws s r is going new same after rests (all.misread_keep s new conversation k said is.kept misread);
            steps = inr (inl (record {
              untold = untold;
              going = going;
              misread = misread;
              layout = read.layout;
              room = ap (λ (s : Staged). room_of (journal_in s)) read.staged;
              faults = read.faults;
              still = still;
              made = read.made;
            }));
            journaled = read_journaled modelled life name all.laws s r is going new same after rests (no_faults modelled (has_failed after) (life (disk_of r)).faults (life (disk_of after)).faults still read.faults);
          }

      out_of_memory : MayWantMemory s conversation k → IsDone modelled life name s r conversation k no_memory s after
      out_of_memory wanting = record {
        recorded = read_recorded modelled life name all.laws s r is going s refl after rests is.kept;
        steps = inr (inr (inl (record {
          going = going;
          wanting = wanting;
          answer_is = refl;
          same = only_read modelled life name s r after rests read.faults read.failed;
          untouched = λ no_rows. absurd (reading_no no_rows);
        })));
        journaled = read_journaled modelled life name all.laws s r is going s refl after rests (no_faults modelled (has_failed after) (life (disk_of r)).faults (life (disk_of after)).faults still read.faults);
      }

      taken_by : (said : Answer) (new : CoreState) → IsTaken s conversation k said new ⊎ ((modelled ≡ false) × Misreads s conversation k said new) → IsDone modelled life name s r conversation k said new after
      taken_by said new (inl taken) =
          subst (λ (a : Answer). IsDone modelled life name s r conversation k a new after) (sym taken.answer_is)
          (subst (λ (n : CoreState). IsDone modelled life name s r conversation k (answer s.branches s.base conversation k) n after) (sym taken.state) read_step)
      taken_by said new (inr other) = misread_step other.0 said new other.1

    -- ---- the device failed in a read

    failed_step : (after : DiskRecorder D) → FailsToRead modelled life r after → IsDone modelled life name s r conversation k device_failed s after
    failed_step after fails =
        let rests : RestsOn life r after = record { disk = fails.stays; staged = fails.staged; layout = fails.layout; made = fails.made } in
        let faults : IsTrue modelled → (life (disk_of after)).faults ≡ (life (disk_of r)).faults + 1 = λ is_modelled. fails.faults is_modelled going in
        record {
          recorded = read_recorded modelled life name all.laws s r is going s refl after rests is.kept;
          steps = inr (inr (inr (inr (inr (inl (record {
            going = going;
            reading = reading;
            answer_is = refl;
            name = refl;
            state = refl;
            layout = fails.layout;
            room = ap (λ (s : Staged). room_of (journal_in s)) fails.staged;
            faults = some_fault modelled true (life (disk_of r)).faults (life (disk_of after)).faults refl faults fails.at_most;
            failed = fails.failed;
            made = fails.made;
          }))))));
          journaled = read_journaled modelled life name all.laws s r is going s refl after rests (some_fault modelled (has_failed after) (life (disk_of r)).faults (life (disk_of after)).faults fails.failed faults fails.at_most);
        }

    -- memory is refused only where a call may want some
    module _ (said : Answer) (new : CoreState) (after : DiskRecorder D) (sure : may_want_any s conversation k ≡ false → record_due s conversation k ≡ None → Takes (Records modelled life) s conversation k said new r after) where
      unread_by : (error_is : ReadError) → said ≡ core.unread_answer error_is → new ≡ s → LeavesReader {A = Unit {0}} (Reads modelled life) (FailsToRead modelled life) r (Err error_is) after → IsDone modelled life name s r conversation k said new after
      unread_by error.NoMemory answer_is same read =
          unless_sure modelled life name all s r is going conversation k said new after sure (may_want_any s conversation k) (record_due s conversation k) refl refl (λ wanting.
          subst (λ (a : Answer). IsDone modelled life name s r conversation k a new after) (sym answer_is)
          (subst (λ (n : CoreState). IsDone modelled life name s r conversation k no_memory n after) (sym same) (out_of_memory after read wanting)))
      unread_by error.DeviceFailed answer_is same fails =
          subst (λ (a : Answer). IsDone modelled life name s r conversation k a new after) (sym answer_is)
          (subst (λ (n : CoreState). IsDone modelled life name s r conversation k device_failed n after) (sym same) (failed_step after fails))

      looks_by : core.Looks modelled (Reads modelled life) (FailsToRead modelled life) s conversation k said new r after → IsDone modelled life name s r conversation k said new after
      looks_by (inl takes) = taken_by after takes.read said new takes.step
      looks_by (inr vain) = unread_by vain.error vain.answer_is vain.state vain.read

  pub any_step : (said : Answer) (new : CoreState) (after : DiskRecorder D) → (may_want_any s conversation k ≡ false → record_due s conversation k ≡ None → Takes (Records modelled life) s conversation k said new r after)
      → core.StepsOver modelled (Records modelled life) (Fails modelled life) (Reads modelled life) (FailsToRead modelled life) s conversation k said new r after → IsDone modelled life name s r conversation k said new after
  any_step said new after sure (inl steps) = plain_step modelled life name all s r is going conversation k said new after sure steps
  any_step said new after sure (inr looks) = looks_by looks.0 said new after sure looks.1
