-- DELETE: removals of keys of the table, since its rows are rows of its schema.
use Rattle.std.proofs.Common.{◌≡◌, ℕ, List, [], ◌∷◌, true, refl, map, Option, Some, length}
use Rattle.std.specs.List.{AllByRecursion, list_all}
use Rattle.sql_text.specs.declared.tree.Predicate.{Predicate}
use Rattle.row_values.specs.Value.{Value}
use Rattle.row_values.specs.Schema.{Schema, is_name, is_schema}
use Rattle.row_values.specs.Row.{is_row}
use Rattle.row_values.specs.Key.{row_key}
use Rattle.row_values.proofs.ValueLaws.{first_true, second_true}
use Rattle.tables.specs.Change.{remove}
use Rattle.tables.specs.Laws.{Put, Removed}
use Rattle.tables.specs.Tables.{Store, schema_of}
use Rattle.sql_semantics.specs.Classes.{filter_fault}
use Rattle.sql_semantics.specs.Meaning.{delete_answer}
use Rattle.recovery.proofs.Rows.{key_length, key_of_row}
use Rattle.recovery.proofs.RowPlaces.{OfTable, rows_placed}
use Rattle.recovery.proofs.Checking.{Makes, make_none, make_room}

all_removed : (table : List ℕ) (schema : Schema) (rows : List (List ℕ)) → is_schema schema ≡ true → list_all (is_row schema) rows ≡ true → AllByRecursion (OfTable table schema) (map (λ row. remove table (row_key schema row)) rows)
all_removed table schema [] good all = tt
all_removed table schema (row ∷ rows) good all =
    let is = first_true (is_row schema row) (list_all (is_row schema) rows) all in
    ((refl, key_of_row schema row good is, key_length schema row good is), all_removed table schema rows good (second_true (is_row schema row) (list_all (is_row schema) rows) all))

pub delete_placed : Put → Removed → (v : Store) (left : ℕ) (params : List Value) (table : List ℕ) (schema : Schema) (f : Option Predicate) (rows : List (List ℕ)) → is_name table ≡ true → is_schema schema ≡ true → schema_of v table ≡ Some schema
    → list_all (is_row schema) rows ≡ true → Makes v (delete_answer left params table schema f rows)
delete_placed puts removed v left params table schema f rows named good there all =
    make_none v (filter_fault params schema.columns f) _
    (make_room v left (map (λ row. remove table (row_key schema row)) rows) (length rows)
    (rows_placed puts removed (map (λ row. remove table (row_key schema row)) rows) table schema v named there (all_removed table schema rows good all)))
