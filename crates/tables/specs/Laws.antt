-- The laws that tie the definitions to one another.
use Rattle.std.specs.Prelude.{◌≡◌, ℕ, List, [], ◌++◌, length, map, Some, is_some, option_map, unwrap_or, bytes_eq, if◌then◌else◌, true}
use Rattle.std.specs.List.{slice_get}
use Rattle.std.specs.Map.{keys_of}
use Rattle.std.specs.Ordering.{nat_cmp}
use Rattle.std.specs.Cmp.Lexicographic.{slice_cmp}
use Rattle.std.specs.BTreeMap.{insert_entry}
use Rattle.drda_words.specs.Bytes.{AreBytes}
use Rattle.drda_words.specs.Order.{rises}
use Rattle.row_values.specs.Schema.{Schema}
use Rattle.row_values.specs.Key.{key_cmp, row_key}
use Rattle.tables.specs.Change.{Change, create, put, remove, change_at, change_bytes, is_change}
use Rattle.tables.specs.Tables.{Creates, Puts, Removes, Store, Table, apply, is_row_at, put_row, remove_row, row_of, rows_of, schema_of, table_of}
use Rattle.tables.specs.View.{is_sound, is_store, is_table}

-- what each change does
abbrev pub Created : Type 0
Created = (name : List ℕ) (schema : Schema) (s : Store) → Creates name schema s (apply (create name schema) s)

abbrev pub Put : Type 0
Put = (name row : List ℕ) (s : Store) → Puts name row s (apply (put name row) s)

abbrev pub Removed : Type 0
Removed = (name key : List ℕ) (s : Store) → Removes name key s (apply (remove name key) s)

-- changes are read back from their bytes, whatever follows
abbrev pub ChangeWrittenIsRead : Type 0
ChangeWrittenIsRead = (change : Change) (rest : List ℕ) → is_change change ≡ true → change_at (change_bytes change ++ rest) ≡ Some (change, rest)

-- bytes in which a change is read begin with its bytes
abbrev pub ChangeReadWasWritten : Type 0
ChangeReadWasWritten = (bytes : List ℕ) (x : Change × List ℕ) → AreBytes bytes → change_at bytes ≡ Some x → (is_change x.0 ≡ true) × (bytes ≡ change_bytes x.0 ++ x.1)

-- every change keeps a store one
abbrev pub StoresAreKept : Type 0
StoresAreKept = (change : Change) (s : Store) → is_sound change ≡ true → is_store s ≡ true → is_store (apply change s) ≡ true

-- stores that show the same are the same
abbrev pub StoresAreWhatTheyShow : Type 0
StoresAreWhatTheyShow = (s t : Store) → is_store s ≡ true → is_store t ≡ true → ((q : List ℕ) → schema_of s q ≡ schema_of t q) → ((q key : List ℕ) → row_of s q key ≡ row_of t q key) → s ≡ t

-- ---- what is found in a store

-- a table that is found is one
abbrev pub TablesAreTables : Type 0
TablesAreTables = (s : Store) (name : List ℕ) (t : Table) → is_store s ≡ true → table_of s name ≡ Some t → is_table t ≡ true

-- a row that is found is one of its table's schema, at that key
abbrev pub FoundAreRows : Type 0
FoundAreRows = (s : Store) (name key row : List ℕ) → is_store s ≡ true → row_of s name key ≡ Some row → is_row_at (schema_of s name) row key ≡ true

-- the row is one of the list
abbrev pub IsAmong : List (List ℕ) → List ℕ → Type 0
IsAmong rows row = (i : ℕ) × (slice_get rows i ≡ Some row)

-- the rows of a table are those that are found, each at its key, and their keys rise
pub record ListsFound (s : Store) (name : List ℕ) : Type 0 where
  pub all : (key row : List ℕ) → row_of s name key ≡ Some row → IsAmong (rows_of s name) row
  pub only : (schema : Schema) (row : List ℕ) → schema_of s name ≡ Some schema → IsAmong (rows_of s name) row → row_of s name (row_key schema row) ≡ Some row
  pub order : (schema : Schema) → schema_of s name ≡ Some schema → rises (key_cmp schema) (map (row_key schema) (rows_of s name)) ≡ true

abbrev pub RowsAreFound : Type 0
RowsAreFound = (s : Store) (name : List ℕ) → is_store s ≡ true → ListsFound s name

-- where two stores have the same schema of a table and the same row at each of its keys, they list the
-- same rows of it
abbrev pub RowsAreWhatIsFound : Type 0
RowsAreWhatIsFound = (s t : Store) (name : List ℕ) → is_store s ≡ true → is_store t ≡ true → schema_of s name ≡ schema_of t name → ((key : List ℕ) → row_of s name key ≡ row_of t name key) → rows_of s name ≡ rows_of t name

-- stores that know the same names have the same list of names, and as many tables
abbrev pub NamesAreWhatIsKnown : Type 0
NamesAreWhatIsKnown = (s t : Store) → is_store s ≡ true → is_store t ≡ true → ((q : List ℕ) → is_some (schema_of s q) ≡ is_some (schema_of t q)) → (keys_of s ≡ keys_of t) × (length s ≡ length t)

-- ---- what a change makes of each table, and of the names

abbrev pub TableCreated : Type 0
TableCreated = (name : List ℕ) (schema : Schema) (s : Store) (q : List ℕ) → table_of (apply (create name schema) s) q ≡ (if bytes_eq q name then Some (unwrap_or (table_of s name) (record { schema = schema; rows = [] })) else table_of s q)

abbrev pub TablePut : Type 0
TablePut = (name row : List ℕ) (s : Store) (q : List ℕ) → table_of (apply (put name row) s) q ≡ (if bytes_eq q name then option_map (put_row row) (table_of s q) else table_of s q)

abbrev pub TableRemoved : Type 0
TableRemoved = (name key : List ℕ) (s : Store) (q : List ℕ) → table_of (apply (remove name key) s) q ≡ (if bytes_eq q name then option_map (remove_row key) (table_of s q) else table_of s q)

-- the names with one more, in its place
abbrev pub with_name : List ℕ → List (List ℕ) → List (List ℕ)
with_name name names = keys_of (insert_entry (slice_cmp nat_cmp) (map (λ (n : List ℕ). (n, n)) names) name name)

-- only a creation changes the names, by the one that it creates
abbrev pub names_after : Change → Store → List (List ℕ)
names_after (create name schema) s = if is_some (table_of s name) then keys_of s else with_name name (keys_of s)
names_after (put name row) s = keys_of s
names_after (remove name key) s = keys_of s

abbrev pub NamesChange : Type 0
NamesChange = (change : Change) (s : Store) → keys_of (apply change s) ≡ names_after change s
