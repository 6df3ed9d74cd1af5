-- The rows of a table and what has become of its keys, in turn.
use Rattle.std.specs.Prelude.{ℕ, List, [], ◌∷◌, ◌++◌, map, if◌then◌else◌}
use Rattle.std.specs.List.{AllByRecursion}
use Rattle.std.specs.Ordering.{is_eq, is_gt}
use Rattle.row_values.specs.Schema.{Schema}
use Rattle.row_values.specs.Key.{row_key}
use Rattle.key_map.specs.SortForm.{sort_form}
use Rattle.key_map.specs.Slots.{by_bytes}
use Rattle.key_map.specs.Merging.{Changes, Rows, keyed}
use Rattle.unit_changes.specs.declared.table_rows.FormedRow.{FormedRow}
use Rattle.unit_changes.specs.UnitTable.{IsKey}

abbrev pub formed_of : FormedRow → List ℕ × List ℕ
formed_of r = (r.form.items, r.row.items)

-- rows by the sort forms of their keys
abbrev pub by_forms : Schema → List (List ℕ) → Rows
by_forms schema rows = map (λ (row : List ℕ). (sort_form schema (row_key schema row), row)) rows

-- the keys of rows are keys
abbrev pub HaveRowKeys : Schema → List (List ℕ) → Type 0
HaveRowKeys schema rows = AllByRecursion (λ (row : List ℕ). IsKey schema (row_key schema row)) rows

-- the rows before a key, those from it on, and these without its own
abbrev pub rows_before : List ℕ → Rows → Rows
rows_before key [] = []
rows_before key (e ∷ es) = if is_gt (by_bytes key e.0) then e ∷ rows_before key es else []

abbrev pub rows_from : List ℕ → Rows → Rows
rows_from key [] = []
rows_from key (e ∷ es) = if is_gt (by_bytes key e.0) then rows_from key es else e ∷ es

abbrev pub without_first : List ℕ → Rows → Rows
without_first key [] = []
without_first key (e ∷ es) = if is_eq (by_bytes key e.0) then es else e ∷ es

-- each change in its place among the rows
abbrev pub in_turn : Rows → Changes → Rows
in_turn rows [] = rows
in_turn rows (c ∷ cs) = rows_before c.0 rows ++ (keyed c.0 c.1 ++ in_turn (without_first c.0 (rows_from c.0 rows)) cs)
