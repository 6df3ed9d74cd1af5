-- Tables, stores, and what changes make of them.
use Rattle.std.specs.Prelude.{ℕ, Bool, false, List, [], ◌∷◌, ◌≡◌, Option, Some, None, is_some, bytes_eq, ◌&&◌, not, if◌then◌else◌, filter, option_map, unwrap_or}
use Rattle.std.specs.Option.{option_and_then}
use Rattle.std.specs.Ordering.{nat_cmp}
use Rattle.std.specs.Cmp.Lexicographic.{slice_cmp}
use Rattle.std.specs.Map.{lookup, values_of}
use Rattle.std.specs.BTreeMap.{insert_entry}
use Rattle.row_values.specs.Schema.{Schema}
use Rattle.row_values.specs.Row.{is_row}
use Rattle.row_values.specs.Key.{key_cmp, row_key}
use Rattle.tables.specs.Change.{Change, create, put, remove}

-- a table: its schema, and its rows by their keys, in the order of keys
pub record Table : Type 0 where
  pub schema : Schema
  pub rows : List (List ℕ × List ℕ)

-- a store: its tables by their names, in the order of the names' bytes
abbrev pub Store : Type 0
Store = List (List ℕ × Table)

-- ---- what is seen in a store

abbrev pub table_of : Store → List ℕ → Option Table
table_of store name = lookup (bytes_eq name) store

abbrev pub schema_of : Store → List ℕ → Option Schema
schema_of store name = option_map (λ (t : Table). t.schema) (table_of store name)

-- the row of a key
abbrev pub row_of : Store → List ℕ → List ℕ → Option (List ℕ)
row_of store name key = option_and_then (λ (t : Table). lookup (bytes_eq key) t.rows) (table_of store name)

-- all rows, in the order of keys
abbrev pub rows_of : Store → List ℕ → List (List ℕ)
rows_of store name = unwrap_or (option_map (λ (t : Table). values_of t.rows) (table_of store name)) []

-- ---- changes

-- the store with the table of a name changed; without that table the store itself
abbrev pub with_table : (Table → Table) → List ℕ → Store → Store
with_table change name [] = []
with_table change name (e ∷ es) = if bytes_eq name e.0 then (e.0, change e.1) ∷ es else e ∷ with_table change name es

-- the table with this row in place of the one of its key. What is no row of the table changes
-- nothing.
abbrev pub put_row : List ℕ → Table → Table
put_row row table = if is_row table.schema row
    then record { schema = table.schema; rows = insert_entry (key_cmp table.schema) table.rows (row_key table.schema row) row } else table

-- the table without the row of this key, if it has one
abbrev pub remove_row : List ℕ → Table → Table
remove_row key table = record { schema = table.schema; rows = filter (λ (e : List ℕ × List ℕ). not (bytes_eq key e.0)) table.rows }

-- what a change makes of a store. A table that is there already is not created again, and into no
-- table nothing is put.
abbrev pub apply : Change → Store → Store
apply (create name schema) store = if is_some (table_of store name) then store
    else insert_entry (slice_cmp nat_cmp) store name (record { schema = schema; rows = [] })
apply (put name row) store = with_table (put_row row) name store
apply (remove name key) store = with_table (remove_row key) name store

-- ---- what a change does, seen table by table and row by row

-- a row of a table's schema, whose key is this one
abbrev pub is_row_at : Option Schema → List ℕ → List ℕ → Bool
is_row_at None row key = false
is_row_at (Some schema) row key = is_row schema row && bytes_eq key (row_key schema row)

-- t is s with a table of that name, where s has none; no row comes or goes
pub record Creates (name : List ℕ) (schema : Schema) (s t : Store) : Type 0 where
  pub schemas : (q : List ℕ) → schema_of t q ≡ (if bytes_eq q name then Some (unwrap_or (schema_of s name) schema) else schema_of s q)
  pub found : (q key : List ℕ) → row_of t q key ≡ row_of s q key
  pub rows : (q : List ℕ) → rows_of t q ≡ rows_of s q

-- t is s with the row at its key, where s has the table and the row is one of it
pub record Puts (name row : List ℕ) (s t : Store) : Type 0 where
  pub schemas : (q : List ℕ) → schema_of t q ≡ schema_of s q
  pub found : (q key : List ℕ) → row_of t q key ≡ (if bytes_eq q name && is_row_at (schema_of s name) row key then Some row else row_of s q key)
  pub others : (q : List ℕ) → bytes_eq q name ≡ false → rows_of t q ≡ rows_of s q

-- t is s without the row of the key
pub record Removes (name key : List ℕ) (s t : Store) : Type 0 where
  pub schemas : (q : List ℕ) → schema_of t q ≡ schema_of s q
  pub found : (q k : List ℕ) → row_of t q k ≡ (if bytes_eq q name && bytes_eq k key then None else row_of s q k)
  pub others : (q : List ℕ) → bytes_eq q name ≡ false → rows_of t q ≡ rows_of s q
