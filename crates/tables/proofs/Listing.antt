-- The rows of a list.
use Rattle.std.proofs.Common.{◌≡◌, ℕ, List, true, Some}
use Rattle.std.specs.List.{slice_get, list_all}
use Rattle.tables.specs.RowList.{RowList, is_list, is_selection}
use Rattle.row_values.proofs.Keys.{all_at}
use Rattle.row_values.proofs.ValueLaws.{second_true}
use Rattle.row_values.specs.Row.{is_row}

pub list_good : (l : RowList) (i : ℕ) (bytes : List ℕ) → is_list l ≡ true → slice_get l.rows i ≡ Some bytes → is_row l.schema bytes ≡ true
list_good l i bytes good at = all_at (is_row l.schema) l.rows i bytes (second_true (is_selection l.schema l.selected) (list_all (is_row l.schema) l.rows) good) at
