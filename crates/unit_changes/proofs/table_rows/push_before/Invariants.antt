-- What is there, with those that are left before the key, is all before it.
use Rattle.std.proofs.Common.{◌≡◌, ◌++◌, length, map}
use Rattle.std.specs.Map.{values_of}
use Rattle.unit_changes.specs.TableRows.{formed_of, rows_before, rows_from}
use Rattle.unit_changes.proofs.table_rows.push_before.Given as goal

abbrev pub invariant-loop-left : goal.invariant-loop-left
invariant-loop-left l = record {
  pushed : l.all ++ values_of (rows_before l.form (map formed_of l.left)) ≡ l.fn.all ++ values_of (rows_before l.form (map formed_of l.rows));
  left : rows_from l.form (map formed_of l.left) ≡ rows_from l.form (map formed_of l.rows);
}

abbrev pub decreases-loop-left : goal.decreases-loop-left
decreases-loop-left l = length l.left
