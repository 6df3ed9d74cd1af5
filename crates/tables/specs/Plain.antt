-- Tables in memory, and what is sought in them.
use Rattle.std.specs.Prelude.{ℕ, Bool, false, List, Option, Some, None, map, bytes_eq}
use Rattle.std.specs.String.{string_bytes}
use Rattle.std.specs.Arc.{arc_value}
use Rattle.std.specs.List.{prefix_len}
use Rattle.std.specs.Ordering.{is_gt, nat_cmp}
use Rattle.std.specs.Cmp.Lexicographic.{slice_cmp}
use Rattle.tables.specs.declared.plain_table.PlainRow.{PlainRow}
use Rattle.tables.specs.declared.plain_table.PlainTable.{PlainTable}
use Rattle.row_values.specs.Schema.{Schema}
use Rattle.row_values.specs.Key.{key_cmp}
use Rattle.tables.specs.Tables.{Store, Table}

-- a row, at its key
abbrev pub entry_of : PlainRow → List ℕ × List ℕ
entry_of r = (r.key.items, r.row.items)

abbrev pub rows_in : List PlainRow → List (List ℕ × List ℕ)
rows_in rows = map entry_of rows

abbrev pub table_in : PlainTable → Table
table_in t = record { schema = arc_value t.schema; rows = rows_in t.rows.items }

-- a table, at its name
abbrev pub named_table : PlainTable → List ℕ × Table
named_table t = (string_bytes t.name, table_in t)

abbrev pub store_of : List PlainTable → Store
store_of tables = map named_table tables

abbrev pub is_named : List ℕ → PlainTable → Bool
is_named name t = bytes_eq name (string_bytes t.name)

abbrev pub has_key : List ℕ → PlainRow → Bool
has_key key r = bytes_eq key r.key.items

-- a row of the key stands there
abbrev pub is_of_key : List ℕ → Option PlainRow → Bool
is_of_key key None = false
is_of_key key (Some r) = has_key key r

-- how many rows stand before the place of a key
abbrev pub rows_before : Schema → List ℕ → List PlainRow → ℕ
rows_before schema key rows = prefix_len (λ r. is_gt (key_cmp schema key r.key.items)) rows

-- how many tables stand before the place of a name
abbrev pub tables_before : List ℕ → List PlainTable → ℕ
tables_before name tables = prefix_len (λ t. is_gt (slice_cmp nat_cmp name (string_bytes t.name))) tables
