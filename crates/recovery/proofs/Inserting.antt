-- INSERT: one put of a row of the table.
use Rattle.std.proofs.Common.{◌≡◌, ℕ, List, [], ◌∷◌, true, ◌==◌, refl, ap, ◌∙◌, sym, Some, length, Ok}
use Rattle.std.specs.Prelude.{nat_le}
use Rattle.sql_text.specs.declared.tree.Columns.{Columns}
use Rattle.row_values.specs.Value.{Value}
use Rattle.row_values.specs.Schema.{Schema, is_name, is_schema}
use Rattle.row_values.specs.Row.{all_fit, is_row, row_bytes}
use Rattle.tables.specs.Change.{put}
use Rattle.tables.specs.Laws.{Put, Removed}
use Rattle.tables.specs.Tables.{Store, schema_of}
use Rattle.sql_semantics.specs.Checked.{unless}
use Rattle.sql_semantics.specs.Insert.{first_misfit, given_row, new_row}
use Rattle.sql_semantics.specs.Meaning.{insert_answer, put_answer, within_room}
use Rattle.core_calls.specs.declared.sql_fault.SqlFault.TheVariants as fault
use Rattle.recovery.proofs.Rows.{row_good}
use Rattle.recovery.proofs.RowPlaces.{rows_placed}
use Rattle.recovery.proofs.Checking.{Makes, make_if, make_none, make_room, make_then, ok_inside, unless_ok}

-- a row that passes its checks is one
pub new_row_good : (schema : Schema) (values : List Value) (row : List ℕ) → is_schema schema ≡ true → new_row schema values ≡ Ok row → is_row schema row ≡ true
new_row_good schema values row good h =
    let a = unless_ok (all_fit schema.columns values) fault.Syntax _ row h in
    let b = unless_ok (nat_le (length (row_bytes schema.columns values)) 4000) fault.LimitReached _ row a.1 in
    ap (is_row schema) (sym (ok_inside (row_bytes schema.columns values) row b.1)) ∙ row_good schema values good a.0 b.0

module _ (puts : Put) (removed : Removed) (v : Store) (table : List ℕ) (schema : Schema) (named : is_name table ≡ true) (good : is_schema schema ≡ true) (there : schema_of v table ≡ Some schema) where
  put_placed : (left : ℕ) (others : List (List ℕ)) (values : List Value) → Makes v (put_answer left table schema others values)
  put_placed left others values =
      make_none v (first_misfit schema.columns values) _
      (make_then v (new_row schema values) (λ row. unless (length others == 0) fault.KeyExists (within_room left (put table row ∷ []) 1))
      (λ row is. make_if v (length others == 0) fault.KeyExists (within_room left (put table row ∷ []) 1)
      (λ new. make_room v left (put table row ∷ []) 1 (rows_placed puts removed (put table row ∷ []) table schema v named there ((refl, new_row_good schema values row good is), tt)))))

  pub insert_placed : (left : ℕ) (columns : Columns) (values : List Value) (others : List (List ℕ)) → Makes v (insert_answer left table schema columns values others)
  insert_placed left columns values others =
      make_then v (given_row schema columns values) (put_answer left table schema others) (λ row is. put_placed left others row)
