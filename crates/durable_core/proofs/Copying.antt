-- What copying the state makes of a core and of who reads: it stays recorded, and its pages can be read.
use Rattle.std.proofs.Common.{◌≡◌, ◌⊎◌, ℕ, ◌+◌, Bool, true, false, IsTrue, List, [], ◌∷◌, Result, Ok, Err, refl, sym, ◌∙◌, ap, subst}
use Rattle.std.specs.Prelude.{IfOk}
use Rattle.drda_disk.specs.Disk.{Life}
use Rattle.drda_disk.proofs.Moments.{Stays-trans}
use Rattle.unit_journal.specs.Journal.{room_of}
use Rattle.unit_journal.specs.Staged.{journal_of as journal_in}
use Rattle.unit_journal.specs.declared.staged.Staged.{Staged}
use Rattle.paged_tables.specs.TablesByName.{Tables}
use Rattle.core_model.specs.Step.{CoreState}
use Rattle.ahead_view.specs.Source.{LeavesReader}
use Rattle.ahead_view.specs.declared.source.ReadError.{ReadError}
use Rattle.ahead_view.specs.declared.source.ReadError.TheVariants as error
use Rattle.journal_recorder.specs.Reading.{FailsToRead, HasPages, Reads}
use Rattle.journal_recorder.specs.Recording.{disk_of, has_failed}
use Rattle.journal_recorder.specs.declared.recorder.DiskRecorder.{DiskRecorder}
use Rattle.recovery.specs.Journaled.{Journaled, shown_on}
use Rattle.rdb_core.specs.Copied.{FailsOn, ReadsAlong, ReadsOn}
use Rattle.durable_core.specs.Copying.{Copies, IsLooked, told as told_of}
use Rattle.durable_core.specs.declared.plain_error.PlainError.{PlainError}
use Rattle.durable_core.specs.Recorded.{IsRecorded, core_on}
use Rattle.durable_core.proofs.Recording.{Laws, RestsOn, no_faults, only_read, read_journaled, read_recorded, rests, some_fault}

module _ {D : Type 0} (modelled : Bool) (life : D → Life) where
  -- reads were made, or none, and no call failed
  record IsQuiet (r after : DiskRecorder D) : Type 0 where
    pub rests_on : RestsOn life r after
    pub faults : (life (disk_of after)).faults ≡ (life (disk_of r)).faults
    pub failed : has_failed after ≡ has_failed r
    pub pages : (tables : Tables) → HasPages modelled life r tables → HasPages modelled life after tables

  both_rest : (a b c : DiskRecorder D) → RestsOn life a b → RestsOn life b c → RestsOn life a c
  both_rest a b c first second = record {
    disk = Stays-trans (life (disk_of a)) (life (disk_of b)) (life (disk_of c)) first.disk second.disk;
    staged = second.staged ∙ first.staged;
    layout = second.layout ∙ first.layout;
    made = second.made ∙ first.made;
  }

  one_read : (r after : DiskRecorder D) → Reads modelled life r after → RestsOn life r after
  one_read r after read = record { disk = read.stays; staged = read.staged; layout = read.layout; made = read.made }

  reads_along : (r : DiskRecorder D) (between : List (DiskRecorder D)) (after : DiskRecorder D) → ReadsAlong (Reads modelled life) r between after → IsQuiet r after
  reads_along r [] after same = subst (λ (x : DiskRecorder D). IsQuiet r x) (sym same) (record { rests_on = rests modelled life [] r; faults = refl; failed = refl; pages = λ tables has. has })
  reads_along r (next ∷ later) after made =
      let more = reads_along next later after made.1 in
      record {
        rests_on = both_rest r next after (one_read r next made.0) more.rests_on;
        faults = more.faults ∙ made.0.faults;
        failed = more.failed ∙ made.0.failed;
        pages = λ tables has. more.pages tables (made.0.pages tables has);
      }

  module _ (name : List ℕ) (laws : Laws life) (s : CoreState) (r : DiskRecorder D) (is : IsRecorded modelled life name s r) (going : has_failed r ≡ false) where
    pub record IsLeft {T : Type 0} (told : Result T ReadError) (new : CoreState) (after : DiskRecorder D) : Type 0 where
      pub recorded : IsRecorded modelled life name new after
      pub copies : Copies modelled (told_of told) (shown_on life (core_on name s r)) (shown_on life (core_on name new after))
      pub journaled : Journaled modelled (shown_on life (core_on name s r)) (shown_on life (core_on name new after))
      pub pages : (tables : Tables) → HasPages modelled life r tables → HasPages modelled life after tables

    quiet_left : {T : Type 0} (told : Result T ReadError) (after : DiskRecorder D) (quiet : IsQuiet r after) → Copies modelled (told_of told) (shown_on life (core_on name s r)) (shown_on life (core_on name s after)) → IsLeft told s after
    quiet_left told after quiet copies = record {
      recorded = read_recorded modelled life name laws s r is going s refl after quiet.rests_on is.kept;
      copies = copies;
      journaled = read_journaled modelled life name laws s r is going s refl after quiet.rests_on
          (no_faults modelled (has_failed after) (life (disk_of r)).faults (life (disk_of after)).faults (quiet.failed ∙ going) quiet.faults);
      pages = quiet.pages;
    }

    failed_left : {T : Type 0} (last after : DiskRecorder D) → IsQuiet r last → FailsToRead modelled life last after → IsLeft {T = T} (Err error.DeviceFailed) s after
    failed_left last after quiet fails =
        let rests_on : RestsOn life r after = both_rest r last after quiet.rests_on (record { disk = fails.stays; staged = fails.staged; layout = fails.layout; made = fails.made }) in
        let faults : IsTrue modelled → (life (disk_of after)).faults ≡ (life (disk_of r)).faults + 1 = λ is_modelled. fails.faults is_modelled (quiet.failed ∙ going) ∙ ap (λ (n : ℕ). n + 1) quiet.faults in
        let at_most = subst (λ (n : ℕ). ((life (disk_of after)).faults ≡ n + 1) ⊎ ((life (disk_of after)).faults ≡ n)) quiet.faults fails.at_most in
        record {
          recorded = read_recorded modelled life name laws s r is going s refl after rests_on is.kept;
          copies = record {
            going = going;
            name = refl;
            state = refl;
            layout = rests_on.layout;
            room = ap (λ (s : Staged). room_of (journal_in s)) rests_on.staged;
            faults = some_fault modelled true (life (disk_of r)).faults (life (disk_of after)).faults refl faults at_most;
            failed = fails.failed;
            made = rests_on.made;
          };
          journaled = read_journaled modelled life name laws s r is going s refl after rests_on (some_fault modelled (has_failed after) (life (disk_of r)).faults (life (disk_of after)).faults fails.failed faults at_most);
          pages = λ tables has. fails.pages tables (quiet.pages tables has);
        }

    looked : (after : DiskRecorder D) (quiet : IsQuiet r after) → IsLooked (shown_on life (core_on name s r)) (shown_on life (core_on name s after))
    looked after quiet = record { going = going; same = only_read modelled life name s r after quiet.rests_on quiet.faults quiet.failed }

    all_left : {T : Type 0} (told : Result T ReadError) (after : DiskRecorder D) → LeavesReader (ReadsOn (Reads modelled life)) (FailsOn (Reads modelled life) (FailsToRead modelled life)) r told after → IsLeft told s after
    all_left (Ok x) after made = let quiet = reads_along r made.0 after made.1 in quiet_left (Ok x) after quiet (looked after quiet)
    all_left {T} (Err error.NoMemory) after made = let quiet = reads_along r made.0 after made.1 in quiet_left {T = T} (Err error.NoMemory) after quiet (looked after quiet)
    all_left (Err error.DeviceFailed) after fails = failed_left fails.0 after (reads_along r fails.1.0 fails.0 fails.1.1) fails.2

    -- however it comes out
    pub left_by : {T : Type 0} (told : Result T ReadError) (new : CoreState) → new ≡ s → (after : DiskRecorder D) → LeavesReader (ReadsOn (Reads modelled life)) (FailsOn (Reads modelled life) (FailsToRead modelled life)) r told after → IsLeft told new after
    left_by told new same after made = subst (λ (x : CoreState). IsLeft told x after) (sym same) (all_left told after made)

-- a copy that is told is the one that was made
pub told_copy : {T : Type 0} (P : T → Type 0) (r : Result T ReadError) (told : Result T PlainError) → told ≡ told_of r → IfOk r P → IfOk told P
told_copy P (Ok x) told same h = subst (λ (o : Result _ PlainError). IfOk o P) (sym same) h
told_copy P (Err error.NoMemory) told same h = subst (λ (o : Result _ PlainError). IfOk o P) (sym same) tt
told_copy P (Err error.DeviceFailed) told same h = subst (λ (o : Result _ PlainError). IfOk o P) (sym same) tt
