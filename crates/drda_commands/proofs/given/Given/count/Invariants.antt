use Rattle.std.proofs.Common.{◌≡◌, ◌+◌, ◌-◌, ◌^◌, ◌<◌, min, length}
use Rattle.dss_frames.specs.Group.{command_of}
use Rattle.drda_commands.specs.Given.{contents_of}
use Rattle.drda_commands.specs.Given.{count_in}
use Rattle.drda_commands.proofs.given.Given.count.Given as goal

abbrev pub invariant-dsss : goal.invariant-dsss
invariant-dsss l = record {
  same : min (l.count + count_in (contents_of (command_of l.left))) (2 ^ 64 - 1) ≡ min (count_in (contents_of (command_of l.self.objects))) (2 ^ 64 - 1);
  within : l.count < 2 ^ 64;
}

abbrev pub decreases-dsss : goal.decreases-dsss
decreases-dsss l = length (command_of l.left)
