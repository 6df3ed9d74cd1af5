-- UPDATE: puts of rows of the table.
use Rattle.std.proofs.Common.{◌≡◌, ℕ, List, [], ◌∷◌, true, refl, subst, Option, Some, length, Ok}
use Rattle.std.specs.List.{AllByRecursion}
use Rattle.sql_text.specs.declared.tree.Sum.{Sum}
use Rattle.sql_text.specs.declared.tree.Assignment.{Assignment}
use Rattle.sql_text.specs.declared.tree.Predicate.{Predicate}
use Rattle.row_values.specs.Value.{Value}
use Rattle.row_values.specs.Schema.{Schema, is_name, is_schema}
use Rattle.row_values.specs.Row.{is_row, values_in}
use Rattle.tables.specs.Change.{Change, put}
use Rattle.tables.specs.Laws.{Put, Removed}
use Rattle.tables.specs.Tables.{Store, schema_of}
use Rattle.sql_semantics.specs.Classes.{filter_fault}
use Rattle.sql_semantics.specs.Insert.{new_row}
use Rattle.sql_semantics.specs.Update.{set_all, targets, updated_row, updated_rows}
use Rattle.sql_semantics.specs.Meaning.{update_answer, within_room}
use Rattle.recovery.proofs.RowPlaces.{OfTable, rows_placed}
use Rattle.recovery.proofs.Checking.{Makes, make_none, make_room, make_then, ok_inside, then_ok}
use Rattle.recovery.proofs.Inserting.{new_row_good}

updated_good : (params : List Value) (schema : Schema) (ts : List (ℕ × Sum)) (row new : List ℕ) → is_schema schema ≡ true → updated_row params schema ts row ≡ Ok new → is_row schema new ≡ true
updated_good params schema ts row new good h =
    let s = then_ok (set_all params schema.columns (values_in schema row) ts (values_in schema row)) (new_row schema) new h in
    new_row_good schema s.0 new good s.2

all_updated : (params : List Value) (table : List ℕ) (schema : Schema) (ts : List (ℕ × Sum)) (rows : List (List ℕ)) (xs : List Change) → is_schema schema ≡ true → updated_rows params table schema ts rows ≡ Ok xs → AllByRecursion (OfTable table schema) xs
all_updated params table schema ts [] xs good h = subst (AllByRecursion (OfTable table schema)) (ok_inside [] xs h) tt
all_updated params table schema ts (row ∷ rows) xs good h =
    let n = then_ok (updated_row params schema ts row) _ xs h in
    let r = then_ok (updated_rows params table schema ts rows) (λ more. Ok (put table n.0 ∷ more)) xs n.2 in
    subst (AllByRecursion (OfTable table schema)) (ok_inside (put table n.0 ∷ r.0) xs r.2)
    ((refl, updated_good params schema ts row n.0 good n.1), all_updated params table schema ts rows r.0 good r.1)

pub update_placed : Put → Removed → (v : Store) (left : ℕ) (params : List Value) (table : List ℕ) (schema : Schema) (assignments : List Assignment) (f : Option Predicate) (rows : List (List ℕ)) → is_name table ≡ true → is_schema schema ≡ true → schema_of v table ≡ Some schema
    → Makes v (update_answer left params table schema assignments f rows)
update_placed puts removed v left params table schema assignments f rows named good there =
    make_then v (targets params schema.columns schema.key [] assignments) _
    (λ ts is. make_none v (filter_fault params schema.columns f) _
    (make_then v (updated_rows params table schema ts rows) (λ xs. within_room left xs (length rows))
    (λ xs made. make_room v left xs (length rows) (rows_placed puts removed xs table schema v named there (all_updated params table schema ts rows xs good made)))))
