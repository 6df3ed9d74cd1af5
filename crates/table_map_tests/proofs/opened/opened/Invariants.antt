use Rattle.std.proofs.Common.{◌≡◌}
use Rattle.table_map_tests.proofs.opened.opened.Given as goal

abbrev pub invariant-loop-asked : goal.invariant-loop-asked
invariant-loop-asked g l = l.table.places ≡ l.initial.table.places
