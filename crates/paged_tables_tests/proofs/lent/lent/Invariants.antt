use Rattle.std.proofs.Common.{ℕ, length}
use Rattle.paged_tables.specs.TablesByName.{LieInside}
use Rattle.paged_tables_tests.proofs.lent.lent.Given as goal

abbrev pub invariant-loop-table : goal.invariant-loop-table
invariant-loop-table l = (size : ℕ) → LieInside size l.fn.tables.tables → LieInside size l.left

abbrev pub decreases-loop-table : goal.decreases-loop-table
decreases-loop-table l = length l.left
