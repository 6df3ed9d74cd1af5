-- What is laid ahead, or settled, leaves a core that is recorded, and nothing that counts is changed.
use Rattle.std.proofs.Common.{◌≡◌, ℕ, ◌≤◌, Bool, true, false, IsTrue, List, [], length, Result, Ok, Err, refl, sym, ◌∙◌, ap, subst, arith, append-nil}
use Rattle.std.specs.Prelude.{OnErr, OnOk}
use Rattle.std.proofs.lemmas.Bool.{false≢true}
use Rattle.drda_disk.specs.Disk.{Life}
use Rattle.drda_disk.specs.Region.{SameOutside, end_of}
use Rattle.half_store.specs.declared.header.Layout.{Layout}
use Rattle.unit_journal.specs.Journal.{held_of, region_of, room_of}
use Rattle.unit_journal.specs.declared.journal.Journal.{Journal}
use Rattle.unit_journal.specs.Record.{Entry}
use Rattle.unit_journal.specs.Stands.{Stands}
use Rattle.unit_records.specs.MadeRecords.{MadeRecords}
use Rattle.recovery.specs.Laws.{held_for}
use Rattle.recovery.specs.Part.{durable_part}
use Rattle.recovery.specs.Opens.{Holds}
use Rattle.recovery.specs.ImageLaws.{GroupsStay}
use Rattle.recovery.specs.Journaled.{CallsGoOn, Journaled, OneCallIsMade, shown_on}
use Rattle.core_model.specs.Step.{CoreState}
use Rattle.journal_recorder.specs.Ahead.{FailsAhead, LaysAhead}
use Rattle.journal_recorder.specs.Recording.{disk_of, has_failed, journal_of, layout_of, made_of}
use Rattle.journal_recorder.specs.declared.recorder.DiskRecorder.{DiskRecorder}
use Rattle.durable_core.specs.Ahead.{StaysAhead}
use Rattle.durable_core.specs.Recorded.{IsOnDisk, IsRecorded, core_on}
use Rattle.durable_core.proofs.Recording.{done_in, durable_from, no_faults, one_fault, stays_failed, there_stand}

-- the laws that it rests on
pub record AheadLaws {D : Type 0} (life : D → Life) : Type 0 where
  pub stay : GroupsStay
  pub calls : OneCallIsMade life
  pub go_on : CallsGoOn life

module _ {D : Type 0} (modelled : Bool) (life : D → Life) (name : List ℕ) (all : AheadLaws life) (s : CoreState) (r : DiskRecorder D) (is : IsRecorded modelled life name s r) where
  pub record IsLeft (new : CoreState) (after : DiskRecorder D) : Type 0 where
    pub recorded : IsRecorded modelled life name new after
    pub rests : StaysAhead modelled (shown_on life (core_on name s r)) (shown_on life (core_on name new after))
    pub journaled : Journaled modelled (shown_on life (core_on name s r)) (shown_on life (core_on name new after))

  -- ---- the device had failed

  pub closed_left : has_failed r ≡ true → IsLeft s r
  closed_left is_failed = record {
    recorded = is;
    rests = record { name = refl; state = refl; layout = refl; room = refl; made = refl; faults = λ going. absurd (false≢true (sym going ∙ is_failed)); failed = λ failed. all.calls.failed (core_on name s r) (core_on name s r) failed refl };
    journaled = stays_failed modelled life all.calls (core_on name s r) is_failed;
  }

  module _ (going : has_failed r ≡ false) where
    -- ---- no device call

    pub same_left : IsLeft s r
    same_left = record {
      recorded = is;
      rests = record {
        name = refl;
        state = refl;
        layout = refl;
        room = refl;
        made = refl;
        faults = λ still. no_faults modelled (has_failed r) (life (disk_of r)).faults (life (disk_of r)).faults going refl;
        failed = λ failed. absurd (false≢true (sym going ∙ failed));
      };
      journaled = all.go_on.none modelled (core_on name s r) (λ m still. durable_from modelled life name all.calls s r is m going);
    }

    held_still : (after : DiskRecorder D) → journal_of after ≡ journal_of r → layout_of after ≡ layout_of r → held_of (journal_of after) ≡ held_for (layout_of after) (durable_part s).doubts
    held_still after journal layout = ap (λ (j : Journal). held_of j) journal ∙ is.held ∙ ap (λ (l : Layout). held_for l (durable_part s).doubts) (sym layout)

    inside_still : (after : DiskRecorder D) → journal_of after ≡ journal_of r → SameOutside (region_of (journal_of r)) (life (disk_of r)).seen (life (disk_of after)).seen → end_of (region_of (journal_of after)) ≤ length (life (disk_of after)).seen
    inside_still after journal others =
        subst (λ (j : Journal). end_of (region_of j) ≤ length (life (disk_of after)).seen) (sym journal) (subst (λ (n : ℕ). end_of (region_of (journal_of r)) ≤ n) (sym others.size) is.inside)

    -- ---- all is as it was, but for bytes behind the records

    module _ (after : DiskRecorder D) (lays : LaysAhead modelled life r after) where
      on_disk : IsTrue modelled → IsOnDisk modelled life name s after
      on_disk m =
          let old = is.on_disk m going in
          let here = lays.there old.entries old.settled in
          let stands = subst (λ (es : List Entry). Stands (region_of (journal_of r)) es (life (disk_of after)).seen) (sym (append-nil old.entries))
          (subst (λ (j : Journal). Stands (region_of j) old.entries (life (disk_of after)).seen) lays.journal (there_stand modelled life after old.entries here)) in
          let holds = subst (λ (es : List Entry). Holds name (layout_of r) (region_of (journal_of r)) es (durable_part s) (life (disk_of after)).seen) (append-nil old.entries)
          (all.stay name (layout_of r) (region_of (journal_of r)) old.entries (durable_part s) (durable_part s) [] (life (disk_of r)).seen (life (disk_of after)).seen old.holds tt tt refl (omega (arith, old.holds.room)) lays.others stands) in
          record {
            entries = old.entries;
            settled = here;
            holds = subst (λ (l : Layout). Holds name l (region_of (journal_of after)) old.entries (durable_part s) (life (disk_of after)).seen) (sym lays.layout)
                (subst (λ (j : Journal). Holds name (layout_of r) (region_of j) old.entries (durable_part s) (life (disk_of after)).seen) (sym lays.journal) holds);
            none_begun = ap (λ (m : MadeRecords). m.begun) lays.made ∙ old.none_begun;
          }

      pub laid_left : IsLeft s after
      laid_left = record {
        recorded = record {
          kept = is.kept;
          held = held_still after lays.journal lays.layout;
          inside = inside_still after lays.journal lays.others;
          on_disk = λ m still. on_disk m;
        };
        rests = record {
          name = refl;
          state = refl;
          layout = lays.layout;
          room = ap (λ (j : Journal). room_of j) lays.journal;
          made = lays.made;
          faults = λ still. no_faults modelled (has_failed after) (life (disk_of r)).faults (life (disk_of after)).faults (lays.going ∙ going) lays.faults;
          failed = λ failed. absurd (false≢true (sym going ∙ failed));
        };
        journaled = record {
          name = refl;
          more = [];
          done = ap done_in lays.made ∙ sym (append-nil (made_of r).done);
          faults = λ still. no_faults modelled (has_failed after) (life (disk_of r)).faults (life (disk_of after)).faults (lays.going ∙ going) lays.faults;
          failed = λ failed. absurd (false≢true (sym going ∙ failed));
          records = λ m still.
              let old = is.on_disk m going in
              ([], [], all.calls.laid_ahead (core_on name s r) (core_on name s after) (layout_of r) (region_of (journal_of r)) old.entries old.holds (lays.moments old.entries old.settled) refl lays.made);
        };
      }

    -- ---- the device failed

    module _ (after : DiskRecorder D) (fails : FailsAhead modelled life r after) where
      pub failed_left : IsLeft s after
      failed_left = record {
        recorded = record {
          kept = is.kept;
          held = held_still after fails.journal fails.layout;
          inside = inside_still after fails.journal fails.others;
          on_disk = λ m still. absurd (false≢true (sym still ∙ fails.failed));
        };
        rests = record {
          name = refl;
          state = refl;
          layout = fails.layout;
          room = ap (λ (j : Journal). room_of j) fails.journal;
          made = fails.made;
          faults = λ still. one_fault modelled (has_failed after) (life (disk_of r)).faults (life (disk_of after)).faults fails.failed fails.faults;
          failed = λ failed. absurd (false≢true (sym going ∙ failed));
        };
        journaled = record {
          name = refl;
          more = [];
          done = ap done_in fails.made ∙ sym (append-nil (made_of r).done);
          faults = λ still. one_fault modelled (has_failed after) (life (disk_of r)).faults (life (disk_of after)).faults fails.failed fails.faults;
          failed = λ failed. absurd (false≢true (sym going ∙ failed));
          records = λ m still.
              let old = is.on_disk m going in
              ([], [], all.calls.laid_ahead (core_on name s r) (core_on name s after) (layout_of r) (region_of (journal_of r)) old.entries old.holds (fails.moments old.entries old.settled) refl fails.made);
        };
      }

    by_result : {X Y : Type 0} (result : Result X Y) (after : DiskRecorder D) → OnOk result (LaysAhead modelled life r after) → OnErr result (FailsAhead modelled life r after) → IsLeft s after
    by_result (Ok x) after ok err = laid_left after ok
    by_result (Err e) after ok err = failed_left after err

    -- whatever becomes of it
    pub left_by : (new : CoreState) → new ≡ s → {X Y : Type 0} (result : Result X Y) (after : DiskRecorder D) → OnOk result (LaysAhead modelled life r after) → OnErr result (FailsAhead modelled life r after) → IsLeft new after
    left_by new same result after ok err = subst (λ (n : CoreState). IsLeft n after) (sym same) (by_result result after ok err)
