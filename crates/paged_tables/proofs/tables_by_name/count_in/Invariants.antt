-- What is counted and what is left are all created tables.
use Rattle.std.proofs.Common.{◌≡◌, ◌+◌, ◌≤◌, length}
use Rattle.std.specs.Prelude.{count_by}
use Rattle.paged_tables.specs.Stored.{Stored}
use Rattle.paged_tables.specs.TablesByName.{store_of, tables_in}
use Rattle.paged_tables.proofs.tables_by_name.count_in.Given as goal

abbrev pub invariant-loop-table : goal.invariant-loop-table
invariant-loop-table l = record {
  can : (goal.iterator-loop-table).can_next l.table-iterator;
  finite : (goal.iterator-loop-table).is_finite l.table-iterator;
  sum : l.count + count_by (λ (t : Stored). t.is_created) l.table-iterator ≡ length (store_of (tables_in l.fn.tables.entries));
  few : l.count + length l.table-iterator ≤ length l.fn.tables.entries;
}
