use Rattle.std.proofs.Common.{◌≤◌, length}
use Rattle.core_history.specs.Gathered.{AreApart, AreMembers}
use Rattle.core_history.proofs.chosen.Chosen.choose.Given as goal

abbrev pub invariant-loop-wish : goal.invariant-loop-wish
invariant-loop-wish g l = record {
  members : AreMembers l.places l.wishes l.self.members.items;
  apart : AreApart l.self.members.items;
  few : length l.self.members.items ≤ 64;
}
