-- The changes so far stand before those of the other rows.
use Rattle.std.proofs.Common.{◌≡◌, ℕ, List, ◌++◌, Ok, drop, map}
use Rattle.sql_text.specs.declared.tree.Sum.{Sum}
use Rattle.row_values.specs.Value.{Value}
use Rattle.tables.specs.ChangeView.{change_of}
use Rattle.sql_semantics.specs.Checked.{and_then}
use Rattle.sql_semantics.specs.Update.{updated_rows}
use Rattle.sql_changes.specs.Assigned.{StandFor}
use Rattle.sql_changes.proofs.change.puts.Given as goal

abbrev pub invariant-loop-i : goal.invariant-loop-i
invariant-loop-i l = (params : List Value) (ts : List (ℕ × Sum)) → StandFor params l.rows.schema.columns l.targets ts
    → and_then (updated_rows params l.table l.rows.schema ts (drop l.i l.rows.rows)) (λ more. Ok (map change_of l.changes.items ++ more)) ≡ updated_rows params l.table l.rows.schema ts l.rows.rows
