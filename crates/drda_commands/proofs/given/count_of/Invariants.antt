use Rattle.std.proofs.Common.{◌≡◌, ◌+◌, ◌-◌, ◌^◌, ◌<◌, min, length}
use Rattle.ddm_objects.specs.Reading.{walk}
use Rattle.ddm_objects.specs.Source.{rest_of}
use Rattle.drda_commands.proofs.given.count_of.Given as goal

abbrev pub invariant-loop-part : goal.invariant-loop-part
invariant-loop-part l = record {
  same : min (l.count + length (walk (rest_of l.part-iterator)).objects) (2 ^ 64 - 1) ≡ min (length (walk l.text).objects) (2 ^ 64 - 1);
  within : l.count < 2 ^ 64;
}
