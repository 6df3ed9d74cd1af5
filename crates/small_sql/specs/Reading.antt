-- What reading rows answers.
use Rattle.std.specs.Prelude.{◌≡◌, false, List, [], ◌∷◌, ℕ, Result, Ok, Err}
use Rattle.std.specs.List.{list_all}
use Rattle.row_values.specs.Schema.{Schema}
use Rattle.row_values.specs.Row.{is_row}
use Rattle.row_values.specs.declared.row.ReadError.{ReadError}
use Rattle.row_values.specs.declared.row.ReadError.TheVariants.{Damaged, NoMemory}
use Rattle.small_sql.specs.declared.read.Given.{Given}
use Rattle.small_sql.specs.declared.read.Given.TheVariants as given

-- the rows that a view gave, in their order
abbrev pub rows_given : Given → List (List ℕ)
rows_given given.None = []
rows_given (given.One row) = row.items ∷ []
rows_given (given.Many rows) = rows

-- rows are told damaged only where one of them is none of the schema
abbrev pub DamagedBy : {A : Type 0} → Schema → List (List ℕ) → Result A ReadError → Type 0
DamagedBy schema rows (Ok found) = Unit {0}
DamagedBy schema rows (Err Damaged) = list_all (is_row schema) rows ≡ false
DamagedBy schema rows (Err NoMemory) = Unit {0}
