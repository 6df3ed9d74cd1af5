-- What a unit of work has made of one table.
use Rattle.std.specs.Prelude.{◌≡◌, ℕ, Bool, true, false, List, [], ◌∷◌, Option, Some, None, bytes_eq, map, option_map, if◌then◌else◌}
use Rattle.std.specs.Option.{option_and_then}
use Rattle.std.specs.List.{AllByRecursion}
use Rattle.std.specs.Map.{keys_of, lookup}
use Rattle.drda_words.specs.Bytes.{AreBytes}
use Rattle.row_values.specs.Schema.{Schema}
use Rattle.row_values.specs.Row.{is_row}
use Rattle.row_values.specs.Key.{is_key, row_key}
use Rattle.key_map.specs.SortForm.{sort_form}
use Rattle.key_map.specs.Merging.{Changes, InOrder, Rows, changed, merged, row_at}
use Rattle.tables.specs.Change.{Change, create, put, remove}
use Rattle.tables.specs.Tables.{Store, Table, schema_of, table_of}
use Rattle.tables.specs.View.{is_sound, is_store}
use Rattle.tables.specs.Applied.{apply_all}

-- a table that a unit changed: its schema, whether the unit created it, and by the sort forms of keys
-- the rows that the unit put there and the marks that it removed what was there
pub record UnitTable : Type 0 where
  pub name : List ℕ
  pub schema : Schema
  pub is_new : Bool
  pub said : Changes

-- rows by the sort forms of their keys
abbrev pub formed : Schema → List (List ℕ × List ℕ) → Rows
formed schema rows = map (λ (e : List ℕ × List ℕ). (sort_form schema e.0, e.1)) rows

abbrev pub rows_in : Option Table → List (List ℕ × List ℕ)
rows_in None = []
rows_in (Some t) = t.rows

abbrev pub row_in : List ℕ → Option Table → Option (List ℕ)
row_in key o = option_and_then (λ (t : Table). lookup (bytes_eq key) t.rows) o

-- bytes that are a key of the schema
abbrev pub IsKey : Schema → List ℕ → Type 0
IsKey schema key = AreBytes key × (is_key schema key ≡ true)

abbrev pub HaveKeys : Schema → List (List ℕ × List ℕ) → Type 0
HaveKeys schema rows = AllByRecursion (IsKey schema) (keys_of rows)

-- of rows of keys of the schema, in order, what is said makes the rows after; their keys are keys
abbrev pub Lists : Schema → Changes → Option Table → Option Table → Type 0
Lists schema said before after = HaveKeys schema (rows_in before) → InOrder (formed schema (rows_in before))
    → (formed schema (rows_in after) ≡ merged (formed schema (rows_in before)) said) × HaveKeys schema (rows_in after)

-- what is said of a table makes of it, as it was before, what it is after
pub record Tells (t : UnitTable) (before after : Option Table) : Type 0 where
  pub schema : option_map (λ (x : Table). x.schema) after ≡ Some t.schema
  pub row : (key : List ℕ) (rows : Rows) → IsKey t.schema key → InOrder rows → row_at (sort_form t.schema key) rows ≡ row_in key before
      → row_at (sort_form t.schema key) (merged rows t.said) ≡ row_in key after
  pub none : (key : List ℕ) → is_key t.schema key ≡ false → row_in key before ≡ None → row_in key after ≡ None
  pub rows : Lists t.schema t.said before after

-- the table has the schema that the unit saw, or is not there and the unit creates it
abbrev pub Fits : Bool → Schema → Option Schema → Type 0
Fits is_new schema (Some s) = s ≡ schema
Fits true schema None = Unit {0}
Fits false schema None = ⊥

-- that is what the changes make of the table in every store in which it has that schema
pub record IsTold (t : UnitTable) (changes : List Change) : Type 0 where
  pub sound : t.is_new ≡ true → is_sound (create t.name t.schema) ≡ true
  pub tells : (s : Store) → is_store s ≡ true → Fits t.is_new t.schema (schema_of s t.name) → Tells t (table_of s t.name) (table_of (apply_all changes s) t.name)

-- ---- one change after another

-- what a change says of keys
abbrev pub said_by : Schema → Change → Changes
said_by schema (create name s) = []
said_by schema (put name row) = if is_row schema row then (sort_form schema (row_key schema row), Some row) ∷ [] else []
said_by schema (remove name key) = if is_key schema key then (sort_form schema key, None) ∷ [] else []

-- the rows with each change made in its turn
abbrev pub all_changed : Rows → Changes → Rows
all_changed rows [] = rows
all_changed rows (c ∷ cs) = all_changed (changed rows c.0 c.1) cs

-- the key of a row that is put is one, and one that is removed is of bytes
abbrev pub SaysKeys : Schema → Change → Type 0
SaysKeys schema (create name s) = Unit {0}
SaysKeys schema (put name row) = is_row schema row ≡ true → IsKey schema (row_key schema row)
SaysKeys schema (remove name key) = AreBytes key

abbrev pub name_of : Change → List ℕ
name_of (create name s) = name
name_of (put name row) = name
name_of (remove name key) = name
