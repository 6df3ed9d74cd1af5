use Rattle.std.proofs.Common.{drop}
use Rattle.unit_table.specs.Owner.{plain_owner}
use Rattle.unit_table.proofs.Search.{IsSought}
use Rattle.unit_table.proofs.place.place.Given as goal

abbrev pub invariant-loop-at : goal.invariant-loop-at
invariant-loop-at l = IsSought (plain_owner l.owner) l.entries (drop l.at l.entries) l.at
