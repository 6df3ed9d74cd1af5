-- What a unit of work has made of all tables.
use Rattle.std.specs.Prelude.{◌≡◌, ℕ, ◌+◌, Bool, true, false, List, [], ◌∷◌, Option, Some, None, bytes_eq, is_some, if◌then◌else◌}
use Rattle.std.specs.List.{AllByRecursion}
use Rattle.std.specs.String.{string_bytes}
use Rattle.row_values.specs.Schema.{Schema}
use Rattle.tables.specs.Change.{Change, create, put, remove}
use Rattle.tables.specs.Tables.{Store, schema_of, table_of}
use Rattle.tables.specs.View.{is_sound}
use Rattle.tables.specs.Applied.{apply_all}
use Rattle.unit_changes.specs.UnitTable.{IsTold, UnitTable, name_of}
use Rattle.unit_changes.specs.declared.table_changes.TableChanges.{TableChanges}

abbrev pub is_named : List ℕ → TableChanges → Bool
is_named name t = bytes_eq name (string_bytes t.name)

-- the changes are all of one table
abbrev pub AreOf : List ℕ → List Change → Type 0
AreOf name changes = AllByRecursion (λ (c : Change). name_of c ≡ name) changes

-- a table of which nothing is said yet, before its first change: the creation brings its schema
abbrev pub fresh : Schema → Change → UnitTable
fresh schema (create name s) = record { name = name; schema = s; is_new = true; said = [] }
fresh schema (put name row) = record { name = name; schema = schema; is_new = false; said = [] }
fresh schema (remove name key) = record { name = name; schema = schema; is_new = false; said = [] }

-- what is said of the table of a name
abbrev pub told_of : List ℕ → List UnitTable → Option UnitTable
told_of name [] = None
told_of name (t ∷ ts) = if bytes_eq name t.name then Some t else told_of name ts

-- no change concerns the table
abbrev pub IsLeft : List ℕ → List Change → Type 0
IsLeft name changes = (s : Store) → table_of (apply_all changes s) name ≡ table_of s name

abbrev pub IsToldOf : Option UnitTable → List ℕ → List Change → Type 0
IsToldOf None name changes = IsLeft name changes
IsToldOf (Some t) name changes = (t.name ≡ name) × IsTold t changes

-- each table is told of once
abbrev pub AreApart : List UnitTable → Type 0
AreApart [] = Unit {0}
AreApart (t ∷ ts) = (told_of t.name ts ≡ None) × AreApart ts

-- all is told of what the changes make of tables
pub record IsIndex (changes : List Change) (tables : List UnitTable) : Type 0 where
  pub told : (name : List ℕ) → IsToldOf (told_of name tables) name changes
  pub apart : AreApart tables

-- ---- how many tables there are

-- how many of the tables the store lacks
abbrev pub lacking : List UnitTable → Store → ℕ
lacking [] s = 0
lacking (t ∷ ts) s = (if is_some (schema_of s t.name) then 0 else 1) + lacking ts s

-- where the store lacks the table, the unit creates it
abbrev pub IsNewIn : Store → UnitTable → Type 0
IsNewIn s t = is_some (schema_of s t.name) ≡ false → (t.is_new ≡ true) × (is_sound (create t.name t.schema) ≡ true)

abbrev pub AreNew : List UnitTable → Store → Type 0
AreNew ts s = AllByRecursion (IsNewIn s) ts
