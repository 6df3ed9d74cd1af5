-- A checkpoint behind a rest, which gives up what was laid ahead, is one of the core from before it.
use Rattle.std.proofs.Common.{◌≡◌, inl, inr, ℕ, ◌+◌, ◌<◌, Bool, true, false, List, length, map, Result, refl, sym, ◌∙◌, ap, subst, arith}
use Rattle.std.proofs.lemmas.Bool.{false≢true}
use Rattle.drda_disk.specs.Disk.{Life, Stays}
use Rattle.drda_disk.proofs.Moments.{Stays-trans}
use Rattle.half_store.specs.Layout.{half_len}
use Rattle.half_store.specs.declared.header.Layout.TheVariants.{Two}
use Rattle.row_pages.specs.Laying.{counted}
use Rattle.unit_journal.specs.Record.{Entry}
use Rattle.unit_journal.specs.Staged.{IsAtRest}
use Rattle.unit_records.specs.Records.{entry_of}
use Rattle.store_check.specs.Room.{need_of}
use Rattle.recovery.specs.Journal.{AreGood}
use Rattle.recovery.specs.Laws.{held_for}
use Rattle.recovery.specs.Laying.{are_placed, records_of}
use Rattle.recovery.specs.Part.{durable_part}
use Rattle.recovery.specs.Journaled.{FaultsAfter, Journaled, Shown, shown_on}
use Rattle.core_model.specs.Step.{CoreState}
use Rattle.journal_recorder.specs.Ahead.{FailsAhead, LaysAhead}
use Rattle.journal_recorder.specs.Checkpointing as recorder
use Rattle.journal_recorder.specs.Recording.{disk_of, has_failed, staged_of}
use Rattle.journal_recorder.specs.declared.checkpointing.CheckpointError.{CheckpointError}
use Rattle.journal_recorder.specs.declared.recorder.DiskRecorder.{DiskRecorder}
use Rattle.durable_core.specs.Ahead.{StaysAhead}
use Rattle.durable_core.specs.Checkpointing.{Becomes, Checkpoints, half_bytes_for, need_for, told_of}
use Rattle.durable_core.specs.Recorded.{IsRecorded, core_on}
use Rattle.durable_core.specs.declared.checkpointing.Checkpointed.{Checkpointed}
use Rattle.durable_core.specs.declared.checkpointing.Checkpointed.TheVariants.{Closed, DeviceFailed, Done, Full, NoMemory}
use Rattle.durable_core.proofs.LyingAhead.{AheadLaws, failed_left, laid_left}
use Rattle.durable_core.proofs.Switching as switching
use Rattle.durable_core.proofs.Switching.{Laws}

-- where no device call has failed
no_more : (modelled : Bool) (failed : Bool) (old new : ℕ) → failed ≡ false → FaultsAfter modelled failed old new → new ≡ old
no_more modelled true old new still faults = absurd (false≢true (sym still))
no_more modelled false old new still (inl same) = omega (arith, same)
no_more modelled false old new still (inr damage) = absurd (false≢true damage.failed)

module _ (modelled : Bool) (a b c : Shown) (rests : StaysAhead modelled a b) (going : a.is_failed ≡ false) (still : b.is_failed ≡ false) (unwritten : Stays a.disk b.disk) where
  quiet : b.disk.faults ≡ a.disk.faults
  quiet = no_more modelled b.is_failed a.disk.faults b.disk.faults still (rests.faults going)

  need : need_for b ≡ need_for a
  need = ap (λ (s : CoreState). need_of s.base.store (map entry_of (records_of (durable_part s).doubts)) (held_for Two (durable_part s).doubts)) rests.state

  half : half_bytes_for b ≡ half_bytes_for a
  half = ap (λ (l : List ℕ). half_len (length l)) unwritten.same

  becomes : (told : Checkpointed) → Becomes modelled told b c → Becomes modelled told a c
  becomes Done l = record { going = going; still = l.still; layout = l.layout; leaves = λ m. ap (λ (n : ℕ). c.room + n) (sym need) ∙ l.leaves m ∙ half; faults = l.faults ∙ quiet }
  becomes (Full n room) (g, lacks) = (
    record { going = going; still = g.still; layout = g.layout ∙ rests.layout; room = g.room ∙ rests.room; faults = g.faults ∙ quiet },
    λ m.
        let l = lacks m in
        record {
          less = subst (λ (k : ℕ). k < need_for a) half (subst (λ (k : ℕ). half_bytes_for b < k) need l.less);
          needed = l.needed ∙ ap counted need;
          has = l.has ∙ half;
          unwritten = Stays-trans a.disk b.disk c.disk unwritten l.unwritten;
        },
  )
  becomes NoMemory g = record { going = going; still = g.still; layout = g.layout ∙ rests.layout; room = g.room ∙ rests.room; faults = g.faults ∙ quiet }
  becomes DeviceFailed f = record { going = going; failed = f.failed; layout = f.layout ∙ rests.layout; room = f.room ∙ rests.room; faults = subst (λ (n : ℕ). FaultsAfter modelled true n c.disk.faults) quiet f.faults }
  becomes Closed w = absurd (false≢true (sym still ∙ w.failed))

  pub checkpoints : (told : Checkpointed) → Checkpoints modelled told b c → Checkpoints modelled told a c
  checkpoints told is = record {
    same = record { name = is.same.name ∙ rests.name; state = is.same.state ∙ rests.state; made = is.same.made ∙ rests.made };
    becomes = becomes told is.becomes;
  }

-- what is left of a core
pub record IsLeft {D : Type 0} (modelled : Bool) (life : D → Life) (name : List ℕ) (s : CoreState) (r : DiskRecorder D) (told : Checkpointed) (t : CoreState) (new : DiskRecorder D) : Type 0 where
  pub recorded : IsRecorded modelled life name t new
  pub told_is : Checkpoints modelled told (shown_on life (core_on name s r)) (shown_on life (core_on name t new))
  pub journaled_is : Journaled modelled (shown_on life (core_on name s r)) (shown_on life (core_on name t new))

module _ {D : Type 0} (modelled : Bool) (life : D → Life) (name : List ℕ) (laws : Laws) (all : AheadLaws life) (s : CoreState) (r : DiskRecorder D) (is : IsRecorded modelled life name s r) (going : has_failed r ≡ false)
    (mid : DiskRecorder D) where
  -- the device failed as the core was to be at rest
  pub not_rested : FailsAhead modelled life r mid → IsLeft modelled life name s r DeviceFailed s mid
  not_rested fails =
      let left = failed_left modelled life name all s r is going mid fails in
      record {
        recorded = left.recorded;
        told_is = record {
          same = record { name = refl; state = refl; made = fails.made };
          becomes = record {
            going = going;
            failed = fails.failed;
            layout = fails.layout;
            room = left.rests.room;
            faults = subst (λ (f : Bool). FaultsAfter modelled f (life (disk_of r)).faults (life (disk_of mid)).faults) fails.failed (left.rests.faults going);
          };
        };
        journaled_is = left.journaled;
      }

  module _ (lays : LaysAhead modelled life r mid) (rest : IsAtRest (staged_of mid)) (unwritten : Stays (life (disk_of r)) (life (disk_of mid))) where
    abbrev still : has_failed mid ≡ false
    still = lays.going ∙ going

    pub rested : IsRecorded modelled life name s mid
    rested = (laid_left modelled life name all s r is going mid lays).recorded

    pub has_store : recorder.HasStore modelled life mid
    has_store = switching.has_store modelled life name s mid rested still rest

    -- whatever comes of it, over tables that are the same
    pub left_by : {X : Type 0} (fs : List Entry) (are : fs ≡ map entry_of (records_of (durable_part s).doubts)) (placed : AreGood (records_of (durable_part s).doubts) → are_placed (durable_part s).doubts s.base.store ≡ true)
        (hold : ℕ) (bytes : hold ≡ held_for Two (durable_part s).doubts) (result : Result X CheckpointError) (t : CoreState) → t ≡ s → (new : DiskRecorder D)
        → recorder.Checkpoints modelled life mid s.base.store fs hold result new → IsLeft modelled life name s r (told_of result) t new
    left_by fs are placed hold bytes result t same new is_so =
        let before = laid_left modelled life name all s r is going mid lays in
        let behind = switching.left_by modelled life name laws s mid rested still rest fs are placed hold bytes result t same new is_so in
        record {
          recorded = behind.recorded;
          told_is = checkpoints modelled (shown_on life (core_on name s r)) (shown_on life (core_on name s mid)) (shown_on life (core_on name t new)) before.rests going still unwritten (told_of result) behind.told_is;
          journaled_is = all.go_on.both modelled (core_on name s r) (core_on name s mid) (core_on name t new) before.journaled behind.journaled_is;
        }
