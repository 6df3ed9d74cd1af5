-- The rows so far have their forms, and with those that are left all rows have keys.
use Rattle.std.proofs.Common.{◌≡◌, ◌++◌, drop, map}
use Rattle.unit_changes.specs.TableRows.{HaveRowKeys, by_forms, formed_of}
use Rattle.unit_changes.proofs.table_rows.formed_rows.Given as goal

abbrev pub invariant-loop-i : goal.invariant-loop-i
invariant-loop-i l = record {
  forms : map formed_of l.formed.items ++ by_forms l.schema (drop l.i l.rows) ≡ by_forms l.schema l.rows;
  keys : HaveRowKeys l.schema (drop l.i l.rows) → HaveRowKeys l.schema l.rows;
}
