-- A core over what was read of a store.
use Rattle.std.proofs.Common.{◌≡◌, ◌-◌, ◌≤◌, Bool, IsTrue, List, [], arith, length, sym, ◌∙◌, ap, subst}
use Rattle.drda_disk.specs.Disk.{Life}
use Rattle.drda_disk.specs.Region.{end_of}
use Rattle.half_store.specs.Layout.{half_len}
use Rattle.half_store.specs.declared.header.Layout.{Layout}
use Rattle.paged_tables.specs.TablesByName.{AreOnPages, LieInside, LieOutside, PagesStay, Tables}
use Rattle.unit_journal.specs.Journal.{IsSettled, held_of, region_of}
use Rattle.unit_journal.specs.Record.{Entry}
use Rattle.unit_journal.specs.declared.journal.Journal.{Journal}
use Rattle.recovery.specs.Durable.{Durable}
use Rattle.recovery.specs.Laws.{held_for}
use Rattle.core_model.specs.Step.{CoreState}
use Rattle.recovery.specs.Kept.{IsKept}
use Rattle.recovery.specs.StepLaws.{OpeningsAreKept}
use Rattle.recovery.specs.Part.{durable_part, opened}
use Rattle.journal_recorder.specs.Reading.{HasPages}
use Rattle.unit_journal.specs.Staged.{IsAtRest}
use Rattle.unit_journal.proofs.Staging.{begins_at_rest}
use Rattle.journal_recorder.specs.Recording.{AreThere, disk_of, journal_of, layout_of, made_of, staged_of}
use Rattle.journal_recorder.specs.declared.recorder.DiskRecorder.{DiskRecorder}
use Rattle.recovery.specs.Opens.{Holds}
use Rattle.durable_core.specs.Recorded.{IsOnDisk, IsRecorded}
use Rattle.durable_core.specs.Found.{IsFound, durable_in, name_in}
use Rattle.durable_core.specs.declared.reading.Found.{Found}

module _ {D : Type 0} (modelled : Bool) (life : D → Life) (laws : OpeningsAreKept) (disk : D) (f : Found) (found : IsFound modelled (life disk) f)
    (s : CoreState) (r : DiskRecorder D) (state : s ≡ opened (durable_in f)) (same_disk : disk_of r ≡ disk) (same_journal : journal_of r ≡ f.journal) (same_layout : layout_of r ≡ f.layout) where
  part_is : durable_part s ≡ durable_in f
  part_is = ap (λ (t : CoreState). durable_part t) state ∙ (laws (durable_in f) found.sound).part

  are_there : IsAtRest (staged_of r) → (es : List Entry) → IsSettled modelled (life disk) f.journal es → AreThere modelled life r es
  are_there rest es settled =
      begins_at_rest modelled (life (disk_of r)) (staged_of r) rest es
      (subst (λ (j : Journal). IsSettled modelled (life (disk_of r)) j es) (sym same_journal) (subst (λ (x : D). IsSettled modelled (life x) f.journal es) (sym same_disk) settled))

  on_disk : (made_of r).begun ≡ [] → IsAtRest (staged_of r) → IsTrue modelled → IsOnDisk modelled life (name_in f) s r
  on_disk none_begun rest is =
      let there = found.stands is in
      record {
        entries = there.entries;
        settled = are_there rest there.entries there.settled;
        holds = subst (λ (l : Layout). Holds (name_in f) l (region_of (journal_of r)) there.entries (durable_part s) (life (disk_of r)).seen) (sym same_layout)
            (subst (λ (j : Journal). Holds (name_in f) f.layout (region_of j) there.entries (durable_part s) (life (disk_of r)).seen) (sym same_journal)
            (subst (λ (d : Durable). Holds (name_in f) f.layout (region_of f.journal) there.entries d (life (disk_of r)).seen) (sym part_is)
            (subst (λ (x : D). Holds (name_in f) f.layout (region_of f.journal) there.entries (durable_in f) (life x).seen) (sym same_disk) there.holds)));
        none_begun = none_begun;
      }

  pub is_recorded : (made_of r).begun ≡ [] → IsAtRest (staged_of r) → IsRecorded modelled life (name_in f) s r
  is_recorded none_begun rest = record {
    kept = subst (λ (t : CoreState). IsKept t) (sym state) (laws (durable_in f) found.sound).kept;
    held = ap (λ (j : Journal). held_of j) same_journal ∙ found.held ∙ ap (λ (d : Durable). held_for f.layout d.doubts) (sym part_is) ∙ ap (λ (l : Layout). held_for l (durable_part s).doubts) (sym same_layout);
    inside = subst (λ (j : Journal). end_of (region_of j) ≤ length (life (disk_of r)).seen) (sym same_journal)
        (subst (λ (x : D). end_of (region_of f.journal) ≤ length (life x).seen) (sym same_disk) found.inside);
    on_disk = λ is going. on_disk none_begun rest is;
  }

  -- and the pages of its tables can be read
  pub has_pages : (t : Tables) → PagesStay f.store.tables t → HasPages modelled life r t
  has_pages t stays =
      let region = region_of f.journal in
      record {
        inside = subst (λ (x : D). LieInside (length (life x).seen) t) (sym same_disk) (stays.inside (length (life disk).seen) (found.pages.inside (length (life disk).seen) found.front));
        front = λ is. subst (λ (j : Journal). LieInside (region_of j).at t) (sym same_journal) (stays.inside region.at (found.pages.inside region.at (omega arith)));
        behind = λ is. subst (λ (j : Journal). LieOutside 0 (end_of (region_of j) - half_len (length (life (disk_of r)).seen)) t) (sym same_journal)
            (subst (λ (x : D). LieOutside 0 (end_of region - half_len (length (life x).seen)) t) (sym same_disk) (stays.apart 0 (end_of region - half_len (length (life disk).seen)) found.pages.apart));
        stand = λ is going. subst (λ (x : D). AreOnPages (life x).seen t) (sym same_disk) (stays.stand (life disk).seen (found.pages.stand is));
      }
