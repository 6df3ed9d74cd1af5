-- A row of a list.
use Rattle.std.specs.Prelude.{◌≡◌, ℕ, Some}
use Rattle.std.specs.List.{slice_get}
use Rattle.tables.specs.RowList.{RowList}
use Rattle.row_values.specs.RowView.{row_in, schema_in}
use Rattle.row_values.specs.declared.row_ref.RowRef.{RowRef}

-- the row that stands at this place of the list
abbrev pub IsRowAt : RowList → ℕ → RowRef → Type 0
IsRowAt l i row = (schema_in row ≡ l.schema) × (slice_get l.rows i ≡ Some (row_in row))
