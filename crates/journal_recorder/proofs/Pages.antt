-- What a record or a read leaves of tables whose pages can be read.
use Rattle.std.proofs.Common.{◌≡◌, ℕ, ◌-◌, Bool, true, false, IsTrue, List, length, sym, ◌∙◌, ap, subst}
use Rattle.drda_disk.specs.Disk.{Life}
use Rattle.drda_disk.specs.Region.{SameOutside, end_of}
use Rattle.drda_disk.specs.declared.region.Region.{Region}
use Rattle.half_store.specs.Layout.{half_len}
use Rattle.paged_tables.specs.TablesByName.{AreOnPages, LieInside, LieOutside, Tables}
use Rattle.unit_journal.specs.Journal.{region_of}
use Rattle.unit_records.specs.Records.{UnitRecord}
use Rattle.unit_records.specs.declared.record_error.RecordError.{RecordError}
use Rattle.unit_records.specs.declared.record_error.RecordError.TheVariants as record_error
use Rattle.journal_recorder.specs.Reading.{HasPages, PagesAreKept}
use Rattle.journal_recorder.specs.Recording.{Fails, disk_of, has_failed, journal_of}
use Rattle.journal_recorder.specs.declared.recorder.DiskRecorder.{DiskRecorder}
use Rattle.journal_recorder.proofs.Standing.{all_move, in_front}

pub never : {b : Bool} → b ≡ true → b ≡ false → ⊥
never is_true is_false = cc

module _ {D : Type 0} (modelled : Bool) (life : D → Life) where
  abbrev seen : DiskRecorder D → List ℕ
  seen r = (life (disk_of r)).seen

  -- The places stay. What stands there is asked for only as long as the device has not failed.
  pub placed : (old new : DiskRecorder D) (tables : Tables) → length (seen new) ≡ length (seen old) → region_of (journal_of new) ≡ region_of (journal_of old)
      → (IsTrue modelled → has_failed new ≡ false → AreOnPages (seen new) tables) → HasPages modelled life old tables → HasPages modelled life new tables
  placed old new tables size region stand has = record {
    inside = subst (λ (n : ℕ). LieInside n tables) (sym size) has.inside;
    front = λ m. subst (λ (r : Region). LieInside r.at tables) (sym region) (has.front m);
    behind = λ m. subst (λ (n : ℕ). LieOutside 0 (end_of (region_of (journal_of new)) - half_len n) tables) (sym size)
        (subst (λ (r : Region). LieOutside 0 (end_of r - half_len (length (seen old))) tables) (sym region) (has.behind m));
    stand = stand;
  }

  -- behind the pages something was written
  written : (old new : DiskRecorder D) (tables : Tables) → SameOutside (region_of (journal_of old)) (seen old) (seen new) → region_of (journal_of new) ≡ region_of (journal_of old)
      → (has_failed new ≡ false → has_failed old ≡ false) → HasPages modelled life old tables → HasPages modelled life new tables
  written old new tables others region going has =
      placed old new tables others.size region
      (λ m g. all_move (seen old) (seen new) (region_of (journal_of old)).at (region_of (journal_of old)).length tables others (in_front (region_of (journal_of old)).at _ tables (has.front m)) (has.stand m (going g)))
      has

  pub kept : PagesAreKept modelled life
  kept = record {
    recorded = λ old said new tables is has. written old new tables is.others is.region (λ going. is.was_going) has;
    failed = λ old said error new tables is has. by_error old said error new tables is has;
    all_recorded = λ old records new tables is has. written old new tables is.others is.region (λ going. is.was_going) has;
    all_left_open = λ old records new tables is has. left_open old new tables is.others is.journal is.failed has;
    laid_ahead = λ old new tables is has. written old new tables is.others (ap region_of is.journal) (λ going. sym is.going ∙ going) has;
    not_laid = λ old new tables is has. left_open old new tables is.others is.journal is.failed has;
    changed = λ r old new stay has. record {
      inside = stay.inside (length (seen r)) has.inside;
      front = λ m. stay.inside (region_of (journal_of r)).at (has.front m);
      behind = λ m. stay.apart 0 _ (has.behind m);
      stand = λ m going. stay.stand (seen r) (has.stand m going);
    };
  }
    where
      left_open : (old new : DiskRecorder D) (tables : Tables) → SameOutside (region_of (journal_of old)) (seen old) (seen new) → journal_of new ≡ journal_of old → has_failed new ≡ true → HasPages modelled life old tables → HasPages modelled life new tables
      left_open old new tables others same failed has = written old new tables others (ap region_of same) (λ going. absurd (never failed going)) has

      by_error : (old : DiskRecorder D) (said : UnitRecord) (error : RecordError) (new : DiskRecorder D) (tables : Tables) → Fails modelled life old said error new → HasPages modelled life old tables → HasPages modelled life new tables
      by_error old said record_error.NoMemory new tables is has = subst (λ (r : DiskRecorder D). HasPages modelled life r tables) (sym is) has
      by_error old said (record_error.Full need room) new tables is has = subst (λ (r : DiskRecorder D). HasPages modelled life r tables) (sym is.0) has
      by_error old said record_error.DeviceFailed new tables is has = left_open old new tables is.others is.journal is.failed has
