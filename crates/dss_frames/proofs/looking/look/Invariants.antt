use Rattle.std.proofs.Common.{◌-◌, ◌+◌, length}
use Rattle.dss_frames.specs.Progress.{IsAt}
use Rattle.dss_frames.proofs.looking.look.Given as goal

abbrev pub invariant-judging : goal.invariant-judging
invariant-judging l = IsAt l.bytes l.place

abbrev pub decreases-judging : goal.decreases-judging
decreases-judging l = length l.bytes + 1 - l.place.at
