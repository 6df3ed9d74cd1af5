use Rattle.std.proofs.Common.{◌≡◌, length, true}
use Rattle.tables.specs.View.{is_store}
use Rattle.paged_tables.specs.TablesByName.{created_of, store_of, tables_in}
use Rattle.paged_tables.proofs.lending.TablesLeft.next_table.Given as goal

abbrev pub invariant-loop-name : goal.invariant-loop-name
invariant-loop-name l = record {
  good : is_store (store_of (tables_in l.self-inside.entries)) ≡ true;
  same : created_of (tables_in l.self-inside.entries) ≡ l.fn.self;
}

abbrev pub decreases-loop-name : goal.decreases-loop-name
decreases-loop-name l = length l.self-inside.entries
