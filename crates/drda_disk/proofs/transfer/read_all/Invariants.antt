use Rattle.std.proofs.Common.{◌≡◌, ◌+◌, ◌-◌, ◌≤◌, length, take}
use Rattle.std.specs.Prelude.{IsTrue}
use Rattle.drda_words.specs.Place.{part}
use Rattle.drda_disk.specs.Disk.{Stays}
use Rattle.drda_disk.proofs.transfer.read_all.Given as goal

abbrev pub invariant-loop-done : goal.invariant-loop-done
invariant-loop-done g l = record {
  low : l.done ≤ length l.into;
  size : length l.into ≡ length l.fn.into;
  stays : Stays (g.F.PositionalFile.life l.fn.file) (g.F.PositionalFile.life l.file);
  read : IsTrue g.F.PositionalFile.is_modelled → take l.done l.into ≡ part (g.F.PositionalFile.life l.fn.file).seen l.at l.done;
}

abbrev pub decreases-loop-done : goal.decreases-loop-done
decreases-loop-done g l = length l.into - l.done + l.left
