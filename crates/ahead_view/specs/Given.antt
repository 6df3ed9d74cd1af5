-- The tables that a statement is given: those of a store, with what was read of them in the place of what they have.
use Rattle.std.specs.Prelude.{◌≡◌, ℕ, Bool, IsTrue, List, Option, Some, None, map, true}
use Rattle.std.specs.Global.{Vec}
use Rattle.std.specs.Map.{keys_of}
use Rattle.row_values.specs.Key.{row_key}
use Rattle.tables.specs.Change.{put, remove}
use Rattle.tables.specs.Tables.{Store, Table, apply, schema_of, with_table}
use Rattle.tables.specs.View.{is_store}
use Rattle.ahead_view.specs.Ahead.{WasRead}
use Rattle.ahead_view.specs.declared.reading.ReadAhead.{ReadAhead}
use Rattle.ahead_view.specs.declared.reading.ReadAhead.TheVariants.{Nothing, Row, Rows}

-- the table with these rows, each at its key, in place of its own
abbrev pub with_rows : List (List ℕ) → Table → Table
with_rows rows table = record { schema = table.schema; rows = map (λ (row : List ℕ). (row_key table.schema row, row)) rows }

-- the store with this row at the key, or with none there
abbrev pub with_row : List ℕ → List ℕ → Option (Vec ℕ) → Store → Store
with_row name key None store = apply (remove name key) store
with_row name key (Some row) store = apply (put name row.items) store

-- the store with what was read of it
abbrev pub given_by : Store → ReadAhead → Store
given_by store Nothing = store
given_by store (Row table key row) = with_row table.now key.now row store
given_by store (Rows table rows) = with_table (with_rows rows) table.now store

-- A store is given for another one: it has the same tables, whatever their rows; where what is read is told, it is that store.
pub record StandsFor (is_told : Bool) (given store : Store) : Type 0 where
  pub good : is_store given ≡ true
  pub schemas : (q : List ℕ) → schema_of store q ≡ schema_of given q
  pub names : keys_of store ≡ keys_of given
  pub told : IsTrue is_told → given ≡ store

-- ---- what a view is

-- the tables that a statement is given, and what was read of them and not given away yet
pub record Ahead : Type 0 where
  pub store : Store
  pub read : ReadAhead

-- the tables are a store with those of another one, and have what was read
pub record IsAhead (store : Store) (a : Ahead) : Type 0 where
  pub good : is_store a.store ≡ true
  pub schemas : (q : List ℕ) → schema_of store q ≡ schema_of a.store q
  pub names : keys_of store ≡ keys_of a.store
  pub read : WasRead a.store a.read
