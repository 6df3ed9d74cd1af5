use Rattle.std.proofs.Common.{◌≡◌, ◌-◌, ◌<◌, ◌≤◌, IsTrue}
use Rattle.drda_disk.specs.Disk.{Stays, Only}
use Rattle.unit_journal.proofs.Opening.{ReadSoFar}
use Rattle.unit_journal.proofs.journal.Journal.open.Given as goal

abbrev pub invariant-loop-records : goal.invariant-loop-records
invariant-loop-records g l = record {
  low : l.region.at ≤ l.at;
  high : l.at < l.limit;
  stays : Stays (g.D.Disk.life l.fn.disk) (g.D.Disk.life l.disk);
  faults : (g.D.Disk.life l.disk).faults ≡ (g.D.Disk.life l.fn.disk).faults;
  durable : Only (g.D.Disk.life l.disk);
  so_far : IsTrue g.D.Disk.is_modelled → ReadSoFar (g.D.Disk.life l.fn.disk).seen l.region.at l.at l.records.items;
}

abbrev pub decreases-loop-records : goal.decreases-loop-records
decreases-loop-records g l = l.limit - l.at
