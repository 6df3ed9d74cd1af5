use Rattle.std.proofs.Common.{◌≡◌, ◌≤◌, ◌+◌, ◌-◌, length, drop}
use Rattle.dss_frames.specs.Group.{joined_dsss}
use Rattle.dss_frames.proofs.group.Group.count.Given as goal

abbrev pub invariant-counting : goal.invariant-counting
invariant-counting l = record {
  within : l.at ≤ length l.self.text.now;
  counted : l.count + length (joined_dsss (drop l.at l.self.text.now)) ≡ length (joined_dsss l.self.text.now);
  below : l.count ≤ l.at;
}

abbrev pub decreases-counting : goal.decreases-counting
decreases-counting l = length l.self.text.now - l.at
