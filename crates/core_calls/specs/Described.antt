-- The columns that a statement's rows have.
use Rattle.std.specs.Prelude.{ℕ, List}
use Rattle.row_values.specs.Column.{Column}
use Rattle.row_values.specs.Schema.{Schema, picked}

-- columns of a schema by their places, a place perhaps more than once
pub record Selection : Type 0 where
  pub schema : Schema
  pub selected : List ℕ

abbrev pub columns_of : Selection → List Column
columns_of s = picked s.schema.columns s.selected
