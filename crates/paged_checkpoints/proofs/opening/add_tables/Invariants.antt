use Rattle.paged_checkpoints.proofs.Behind.{IsUnderWay}
use Rattle.paged_checkpoints.proofs.opening.add_tables.Given as goal

abbrev pub invariant-loop-table : goal.invariant-loop-table
invariant-loop-table l = IsUnderWay l.fn.checked.items l.table-iterator.rest.items l.tables.tables
