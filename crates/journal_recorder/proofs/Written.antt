-- Tables whose pages can be read, once a checkpoint was written.
use Rattle.std.proofs.Common.{◌≡◌, ◌⊎◌, inr, ℕ, ◌+◌, ◌-◌, ◌*◌, ◌≤◌, Bool, true, false, IsTrue, List, length, Ok, sym, ◌∙◌, ap, subst, arith}
use Rattle.drda_disk.specs.Disk.{Life}
use Rattle.drda_disk.specs.Region.{end_of}
use Rattle.half_store.specs.Active.{active_of}
use Rattle.half_store.specs.Layout.{half_len, offset_of, other_than}
use Rattle.half_store.specs.Opened.{store_of}
use Rattle.half_store.specs.declared.active.Active.{Active}
use Rattle.tables.specs.Tables.{Store as Rows}
use Rattle.unit_journal.specs.Journal.{region_of}
use Rattle.unit_journal.specs.Record.{Entry}
use Rattle.checkpoint_writer.specs.declared.ending.Switched.{Switched}
use Rattle.store_check.specs.Moment.{GoesOn, IsAnew, Rests}
use Rattle.paged_tables.specs.TablesByName.{AreOnPages, LieInside, LieOutside, Tables}
use Rattle.paged_checkpoints.specs.Apart.{StandApart}
use Rattle.journal_recorder.specs.Checkpointing.{HasStore, RestsWith}
use Rattle.journal_recorder.specs.Reading.{HasPages}
use Rattle.journal_recorder.specs.Recording.{disk_of, has_failed, journal_of}
use Rattle.journal_recorder.specs.declared.recorder.DiskRecorder.{DiskRecorder}
use Rattle.journal_recorder.proofs.Pages.{never, placed}
use Rattle.journal_recorder.proofs.Standing.{all_move, lie_wider}
use Rattle.journal_recorder.proofs.Switching.{of_active, stands_apart}

module _ {D : Type 0} (modelled : Bool) (life : D → Life) (old new : DiskRecorder D) (tables : Tables) (has : HasPages modelled life old tables) (size : length (life (disk_of new)).seen ≡ length (life (disk_of old)).seen) where
  abbrev seen : DiskRecorder D → List ℕ
  seen r = (life (disk_of r)).seen

  -- the device failed
  pub failed : journal_of new ≡ journal_of old → has_failed new ≡ true → HasPages modelled life new tables
  failed same closed = placed modelled life old new tables size (ap region_of same) (λ m going. absurd (never closed going)) has

  module _ (going : has_failed old ≡ false) (active : Active) (is : IsTrue modelled → active_of (seen old) ≡ Ok (store_of active)) (there : HasStore modelled life old) where
    with_active : IsTrue modelled → RestsWith modelled life old (store_of active)
    with_active m = of_active modelled life old active is (there m).0 (there m).1

    apart : IsTrue modelled → StandApart modelled (seen old) (store_of active) tables
    apart m = stands_apart modelled life old tables (store_of active) has going (with_active m)

    -- the old half goes on
    pub refused : journal_of new ≡ journal_of old → (Rests modelled (life (disk_of old)) (store_of active) → GoesOn (life (disk_of new)) (seen old) (store_of active)) → HasPages modelled life new tables
    refused same goes_on = placed modelled life old new tables size (ap region_of same)
        (λ m still. all_move (seen old) (seen new) (offset_of (half_len (length (seen old))) (other_than active.half)) (half_len (length (seen old))) tables (goes_on (with_active m).rests).is.others (apart m).apart (has.stand m going))
        has

    -- the new half is the active one
    pub switched : (laid : Tables) (s : Switched) (rows : Rows) (es : List Entry) (hold : ℕ) → journal_of new ≡ s.journal → LieInside s.active.region.at laid → s.active.region.at ≤ length (seen new)
        → ((from end : ℕ) → (s.active.region.at ≤ from) ⊎ (end + 8192 * s.active.pages ≤ s.active.region.at) → LieOutside from end laid)
        → (Rests modelled (life (disk_of old)) (store_of active) → StandApart modelled (seen old) (store_of active) tables → IsAnew modelled (life (disk_of new)) (seen old) (store_of active) rows es hold s)
        → (Rests modelled (life (disk_of old)) (store_of active) → StandApart modelled (seen old) (store_of active) tables → AreOnPages (seen new) laid)
        → HasPages modelled life new laid
    switched laid s rows es hold journal inside front outside done stand = record {
      inside = lie_wider s.active.region.at (length (seen new)) laid front inside;
      front = λ m. subst (λ (n : ℕ). LieInside n laid) (sym (ap (λ j. (region_of j).at) journal ∙ (anew m).begins)) inside;
      behind = λ m. outside 0 (end_of (region_of (journal_of new)) - half_len (length (seen new))) (inr (behind m));
      stand = λ m still. stand (with_active m).rests (apart m);
    }
      where
        anew : IsTrue modelled → IsAnew modelled (life (disk_of new)) (seen old) (store_of active) rows es hold s
        anew m = done (with_active m).rests (apart m)

        behind : (m : IsTrue modelled) → end_of (region_of (journal_of new)) - half_len (length (seen new)) + 8192 * s.active.pages ≤ s.active.region.at
        behind m =
            let ends : end_of (region_of (journal_of new)) ≡ end_of s.active.region = ap (λ j. end_of (region_of j)) journal ∙ (anew m).ends in
            let same : half_len (length (seen new)) ≡ half_len (length (seen old)) = ap half_len size in
            omega (arith, ends, same, (anew m).behind.begins, (anew m).behind.ends)
