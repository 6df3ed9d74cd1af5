use Rattle.std.proofs.Common.{◌≡◌, ◌+◌, ◌*◌, ℕ, List, ◌++◌, map}
use Rattle.std.specs.Prelude.{IsTrue}
use Rattle.drda_disk.specs.Disk.{Stays}
use Rattle.checkpoint_writer.specs.Catalogue.{Entry, HasEntries, IsDamagedAt, entry_of}
use Rattle.checkpoint_writer.proofs.reading.read_catalogue.Given as goal

abbrev pub invariant-loop-left : goal.invariant-loop-left
invariant-loop-left g l = record {
  stays : Stays (g.D.Disk.life l.fn.pager) (g.D.Disk.life l.pager);
  faults : (g.D.Disk.life l.pager).faults ≡ (g.D.Disk.life l.fn.pager).faults;
  end : l.next + 8192 * l.left ≡ l.fn.at + 8192 * l.fn.pages;
  has : (rest : List Entry) → IsTrue g.D.Disk.is_modelled → HasEntries (g.D.Disk.life l.fn.pager).seen l.next l.left rest
      → HasEntries (g.D.Disk.life l.fn.pager).seen l.fn.at l.fn.pages (map entry_of l.tables.items ++ rest);
  damaged : (d : ℕ) → IsTrue g.D.Disk.is_modelled → IsDamagedAt (g.D.Disk.life l.fn.pager).seen l.next l.left d
      → IsDamagedAt (g.D.Disk.life l.fn.pager).seen l.fn.at l.fn.pages d;
}

abbrev pub decreases-loop-left : goal.decreases-loop-left
decreases-loop-left g l = l.left
