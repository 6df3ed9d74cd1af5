use Rattle.std.proofs.Common.{◌+◌, ◌-◌, ◌≡◌, ◌≤◌, IsTrue, false, length}
use Rattle.drda_words.specs.Place.{part}
use Rattle.drda_disk.specs.Disk.{LeavesOnly, Stays}
use Rattle.half_store.specs.Active.{is_marked}
use Rattle.half_store.specs.Fresh.{IsUnmarked}
use Rattle.grown_stores.proofs.copying.copy.Given as goal

abbrev pub invariant-loop-done : goal.invariant-loop-done
invariant-loop-done g l = record {
  within : l.done ≤ l.count;
  copied : IsTrue g.D.Disk.is_modelled → IsTrue g.E.Disk.is_modelled → part (g.E.Disk.life l.new).seen 8192 l.done ≡ part (g.D.Disk.life l.fn.old).seen l.from l.done;
  stays : Stays (g.D.Disk.life l.fn.old) (g.D.Disk.life l.old);
  size : length (g.E.Disk.life l.new).seen ≡ length (g.E.Disk.life l.fn.new).seen;
  moments : IsUnmarked (g.E.Disk.life l.fn.new) → LeavesOnly (g.E.Disk.life l.fn.new) (g.E.Disk.life l.new) (λ image. is_marked image ≡ false);
}

abbrev pub decreases-loop-done : goal.decreases-loop-done
decreases-loop-done g l = l.count - l.done
