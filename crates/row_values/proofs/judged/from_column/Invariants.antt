-- The rest has the values from place j on, and begins where the earlier ones end.
use Rattle.std.proofs.Common.{map}
use Rattle.row_values.specs.Column.{column_of}
use Rattle.row_values.specs.Row.{StandsFrom}
use Rattle.row_values.proofs.judged.from_column.Given as goal

abbrev pub invariant-loop-j : goal.invariant-loop-j
invariant-loop-j l = StandsFrom (map column_of l.columns) l.bytes l.j l.rest
