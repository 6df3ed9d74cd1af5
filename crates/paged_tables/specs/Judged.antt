-- What rows the table of a schema may have.
use Rattle.std.specs.Prelude.{◌==◌, ℕ, Bool, List, length, Option, Some, None, true}
use Rattle.row_pages.specs.Judging.{do_rise}
use Rattle.row_values.specs.Schema.{Schema}
use Rattle.tables.specs.Tables.{is_row_at}

-- rows of the schema whose keys rise; without a table none
abbrev pub may_be_rows : Option Schema → List (List ℕ) → Bool
may_be_rows None rows = length rows == 0
may_be_rows (Some schema) rows = do_rise schema rows

-- no row, or a row of the schema at that key; without a table no row
abbrev pub may_be_row : Option Schema → Option (List ℕ) → List ℕ → Bool
may_be_row schema None key = true
may_be_row schema (Some row) key = is_row_at schema row key
