-- The columns of the parameters before are there, and there is room for the others.
use Rattle.std.proofs.Common.{◌≡◌, ◌≤◌, length, map, take}
use Rattle.std.specs.Prelude.{vec_capacity}
use Rattle.row_values.specs.Column.{column_of}
use Rattle.command_kit.specs.Reply.{parameter_columns}
use Rattle.sql_commands.proofs.describing.parameter_columns.Given as goal

abbrev pub invariant-loop-i : goal.invariant-loop-i
invariant-loop-i l = record {
  made : map column_of l.columns.items ≡ parameter_columns (take l.i l.types);
  size : length l.columns.items ≡ l.i;
  room : length l.types ≤ vec_capacity l.columns;
}
