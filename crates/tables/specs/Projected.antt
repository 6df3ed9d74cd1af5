-- A row of which some columns are asked for.
use Rattle.std.specs.Prelude.{◌≡◌, ◌≤◌, ◌+◌, ℕ, List, length, Some, true}
use Rattle.std.specs.List.{slice_get}
use Rattle.row_values.specs.Schema.{Schema, is_schema, picked}
use Rattle.row_values.specs.Row.{row_bytes, values_in}
use Rattle.tables.specs.RowList.{RowList, is_list}

-- the bytes of the values at these places of a row, each behind its mark
abbrev pub projected : Schema → List ℕ → List ℕ → List ℕ
projected schema places row = row_bytes (picked schema.columns places) (picked (values_in schema row) places)

-- with two marks before it, such a row has at most 128,194 bytes: 64 values of 2,003 each, a place
-- perhaps more than once
abbrev pub ProjectedRowsAreShort : Type 0
ProjectedRowsAreShort =
    (l : RowList) (i : ℕ) (row : List ℕ) → is_schema l.schema ≡ true → is_list l ≡ true → slice_get l.rows i ≡ Some row → 2 + length (projected l.schema l.selected row) ≤ 128194
