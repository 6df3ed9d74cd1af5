-- Rows of one schema, and which of their columns are asked for.
use Rattle.std.specs.Prelude.{ℕ, Bool, List, length, ◌&&◌, nat_le, is_some}
use Rattle.std.specs.List.{list_all, slice_get}
use Rattle.row_values.specs.Schema.{Schema}
use Rattle.row_values.specs.Row.{is_row}

-- rows, and the places of the columns asked for, a place perhaps more than once
pub record RowList : Type 0 where
  pub schema : Schema
  pub selected : List ℕ
  pub rows : List (List ℕ)

-- at most 64 columns are asked for, each one of the schema, and the rows are rows of it
abbrev pub is_selection : Schema → List ℕ → Bool
is_selection schema selected = nat_le (length selected) 64 && list_all (λ place. is_some (slice_get schema.columns place)) selected

abbrev pub is_list : RowList → Bool
is_list l = is_selection l.schema l.selected && list_all (is_row l.schema) l.rows
