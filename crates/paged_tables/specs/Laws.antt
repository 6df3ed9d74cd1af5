-- Rows as pages have them.
use Rattle.std.specs.Prelude.{◌≡◌, ℕ, List, true}
use Rattle.std.specs.List.{AllByRecursion}
use Rattle.drda_words.specs.Bytes.{AreBytes}
use Rattle.key_map.specs.RowForm.{row_form}
use Rattle.row_values.specs.Schema.{Schema, is_schema}
use Rattle.row_values.specs.Row.{is_row}
use Rattle.table_map.specs.Keyed.{keyed_rows}
use Rattle.paged_tables.specs.Stored.{HaveForms}

-- bytes that are rows of a schema stand at the forms of their keys
abbrev pub RowsHaveForms : Type 0
RowsHaveForms = (schema : Schema) (rows : List (List ℕ)) → is_schema schema ≡ true → AllByRecursion AreBytes rows → AllByRecursion (λ row. is_row schema row ≡ true) rows → HaveForms schema (keyed_rows (row_form schema) rows)
