-- When changes that have their places keep them.
use Rattle.std.specs.Prelude.{◌≡◌, ℕ, true, List, [], ◌∷◌, ◌++◌, Some, ◌&&◌}
use Rattle.row_values.specs.Schema.{Schema}
use Rattle.tables.specs.Change.{Change}
use Rattle.tables.specs.Tables.{Store, apply, schema_of}
use Rattle.core_model.specs.Units.{apply_all}
pub use Rattle.core_model.specs.Misread.{SameTables}
pub use Rattle.recovery.specs.Durable.{creates_none, have_places}

-- changes behind others: those of a statement behind those of its unit
abbrev pub PlacesGoOn : Type 0
PlacesGoOn = (xs ys : List Change) (s : Store) → have_places (xs ++ ys) s ≡ (have_places xs s && have_places ys (apply_all xs s))

-- the tables of the one store are there in the other, with their schemas
abbrev pub KeepsSchemas : Store → Store → Type 0
KeepsSchemas s t = (q : List ℕ) (schema : Schema) → schema_of s q ≡ Some schema → schema_of t q ≡ Some schema

-- changes of rows keep their places where more tables are created
abbrev pub RowsKeepPlaces : Type 0
RowsKeepPlaces = (changes : List Change) (s t : Store) → creates_none changes ≡ true → KeepsSchemas s t → have_places changes s ≡ true → have_places changes t ≡ true

-- all changes keep them where no table is created, whatever becomes of rows
abbrev pub TablesGivePlaces : Type 0
TablesGivePlaces = (changes : List Change) (s t : Store) → SameTables s t → have_places changes s ≡ have_places changes t

-- what a change of another unit does
pub record ChangesKeepTables : Type 0 where
  pub schemas : (change : Change) (s : Store) → KeepsSchemas s (apply change s)
  pub rows : (change : Change) (s : Store) → creates_none (change ∷ []) ≡ true → SameTables s (apply change s)
