-- A gauge is read off what stands on the disk.
use Rattle.std.proofs.Common.{arith, ap, ◌∙◌, ◌≡◌, ℕ, ◌-◌, Bool, IsTrue, false, List, length}
use Rattle.drda_disk.specs.Disk.{Life}
use Rattle.half_store.specs.Layout.{half_len}
use Rattle.unit_journal.specs.Journal.{held_of, region_of, room_of}
use Rattle.core_model.specs.Step.{CoreState}
use Rattle.journal_recorder.specs.Recording.{disk_of, has_failed, journal_of}
use Rattle.journal_recorder.specs.declared.recorder.DiskRecorder.{DiskRecorder}
use Rattle.recovery.specs.Journaled.{shown_on}
use Rattle.durable_core.specs.Gauging.{IsGauge}
use Rattle.durable_core.specs.Recorded.{IsRecorded, core_on}
use Rattle.turns.specs.declared.gauge.Gauge.{Gauge}

module _ {D : Type 0} (modelled : Bool) (life : D → Life) (name : List ℕ) where
  pub gauged : (s : CoreState) (r : DiskRecorder D) (g : Gauge) → IsRecorded modelled life name s r → IsTrue modelled → has_failed r ≡ false
      → g.half ≡ half_len (length (life (disk_of r)).seen) → g.journal ≡ (region_of (journal_of r)).length → g.tables ≡ g.half - g.journal
      → g.room ≡ room_of (journal_of r) → g.records ≡ g.journal - g.room - held_of (journal_of r) - 1
      → IsGauge (shown_on life (core_on name s r)) g
  gauged s r g is modelled_disk going half journal tables room records =
      let there = is.on_disk modelled_disk going in
      let held = is.held in
      let next = there.settled.next in
      let fits = there.holds.room in
      let begins = there.holds.journal.begins in
      let ends = there.holds.journal.ends in
      record {
        region = region_of (journal_of r);
        entries = there.entries;
        stands = there.holds;
        half = half;
        tables = omega (arith, half, journal, tables, begins, ends);
        journal = journal;
        all = omega (arith, half, journal, tables, begins, ends);
        records = omega (arith, journal, room, records, next, held, fits);
        room = omega (arith, journal, room, records, next, held, fits);
      }

  -- of what was read off a recorder
  pub gauged_by : (s : CoreState) (r read : DiskRecorder D) (g : Gauge) → read ≡ r → IsRecorded modelled life name s r → IsTrue modelled → has_failed r ≡ false
      → g.half ≡ half_len (length (life (disk_of read)).seen) → g.journal ≡ (region_of (journal_of read)).length → g.tables ≡ g.half - g.journal
      → g.room ≡ room_of (journal_of read) → g.records ≡ g.journal - g.room - held_of (journal_of read) - 1
      → IsGauge (shown_on life (core_on name s r)) g
  gauged_by s r read g same is modelled_disk going half journal tables room records =
      gauged s r g is modelled_disk going (half ∙ ap (λ (x : DiskRecorder D). half_len (length (life (disk_of x)).seen)) same) (journal ∙ ap (λ (x : DiskRecorder D). (region_of (journal_of x)).length) same)
      tables (room ∙ ap (λ (x : DiskRecorder D). room_of (journal_of x)) same) (records ∙ ap (λ (x : DiskRecorder D). g.journal - g.room - held_of (journal_of x) - 1) same)
