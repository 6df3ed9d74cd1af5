use Rattle.std.proofs.Common.{◌≡◌, ◌≤◌, length, drop}
use Rattle.dss_frames.specs.Group.{joined_dsss}
use Rattle.dss_frames.proofs.group.Group.dss.Given as goal

abbrev pub invariant-walking : goal.invariant-walking
invariant-walking l = record {
  within : l.at ≤ length l.text;
  walked : drop l.counter (joined_dsss l.text) ≡ joined_dsss (drop l.at l.text);
}
