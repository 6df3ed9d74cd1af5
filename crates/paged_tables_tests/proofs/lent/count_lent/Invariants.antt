use Rattle.std.proofs.Common.{length}
use Rattle.paged_tables_tests.proofs.lent.count_lent.Given as goal

abbrev pub decreases-loop-table : goal.decreases-loop-table
decreases-loop-table l = length l.left
