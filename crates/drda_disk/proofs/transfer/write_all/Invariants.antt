use Rattle.std.proofs.Common.{◌≡◌, ◌+◌, ◌-◌, ◌≤◌, length, take}
use Rattle.std.specs.Prelude.{IsTrue}
use Rattle.drda_words.specs.Place.{part}
use Rattle.drda_disk.specs.PositionalFile.{MayTear}
use Rattle.drda_disk.proofs.transfer.write_all.Given as goal

abbrev pub invariant-loop-done : goal.invariant-loop-done
invariant-loop-done g l = record {
  low : l.done ≤ length l.bytes;
  tears : MayTear l.at (length l.bytes) (g.F.PositionalFile.life l.fn.file) (g.F.PositionalFile.life l.file);
  written : IsTrue g.F.PositionalFile.is_modelled → part (g.F.PositionalFile.life l.file).seen l.at l.done ≡ take l.done l.bytes;
}

abbrev pub decreases-loop-done : goal.decreases-loop-done
decreases-loop-done g l = length l.bytes - l.done + l.left
