use Rattle.std.proofs.Common.{length}
use Rattle.drda_disk.specs.Disk.{Torn}
use Rattle.drda_disk.proofs.replay.tear.Given as goal

abbrev pub invariant-loop-i : goal.invariant-loop-i
invariant-loop-i l = Torn l.at (length l.bytes) l.fn.file.items l.file.items
