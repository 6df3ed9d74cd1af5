-- What any question changes has its places.
use Rattle.std.proofs.Common.{◌≡◌, ℕ, List, [], ◌∷◌, Bool, true, false, cond, refl, map, Option, Some, None}
use Rattle.std.specs.Prelude.{filter}
use Rattle.std.specs.List.{list_all}
use Rattle.sql_text.specs.declared.tree.Command.{Command}
use Rattle.sql_text.specs.declared.tree.Command.TheVariants as command
use Rattle.row_values.specs.Value.{Value}
use Rattle.row_values.specs.Schema.{Schema, is_name, is_schema}
use Rattle.row_values.specs.Row.{is_row}
use Rattle.row_values.proofs.ValueLaws.{both_true, first_true, second_true}
use Rattle.tables.specs.Laws.{FoundAreRows, Put, Removed, TablesAreTables}
use Rattle.tables.specs.Tables.{Store, schema_of}
use Rattle.tables.specs.View.{is_store}
use Rattle.sql_semantics.specs.Values.{literal_value, name_of}
use Rattle.sql_semantics.specs.Classes.{filter_fault, selected_places}
use Rattle.sql_semantics.specs.Create.{defined_schema}
use Rattle.sql_semantics.specs.Scope.{scope, table_name}
use Rattle.sql_semantics.specs.Meaning.{answer, concerns}
use Rattle.sql_semantics.specs.Frame.{changes_of, covered_answer, rows_covered, tables_covered}
use Rattle.core_model.specs.Asked.{running, querying, describing}
use Rattle.recovery.specs.QuestionPlaces.{ArePlaced, ChangesHavePlaces}
use Rattle.recovery.proofs.Stores.{covered_rows, schema_good, table_named}
use Rattle.recovery.proofs.Checking.{make_none, make_then, nothing}
use Rattle.recovery.proofs.Creating.{create_placed}
use Rattle.recovery.proofs.Inserting.{insert_placed}
use Rattle.recovery.proofs.Updating.{update_placed}
use Rattle.recovery.proofs.Deleting.{delete_placed}

kept_step : {A : Type 0} (p q : A → Bool) (x : A) (xs : List A) (b : Bool) → p x ≡ true → list_all p xs ≡ true → list_all p (cond b (x ∷ xs) xs) ≡ true
kept_step p q x xs true one more = both_true (p x) (list_all p xs) one more
kept_step p q x xs false one more = more

-- what all are, all that pass are
kept_all : {A : Type 0} (p q : A → Bool) (xs : List A) → list_all p xs ≡ true → list_all p (filter q xs) ≡ true
kept_all p q [] all = refl
kept_all p q (x ∷ xs) all = kept_step p q x (filter q xs) (q x) (first_true (p x) (list_all p xs) all) (kept_all p q xs (second_true (p x) (list_all p xs) all))

absent_placed : (params : List Value) (left : ℕ) (c : Command) (v : Store) (rows : List (List ℕ)) → schema_of v (table_name c) ≡ None → ArePlaced (changes_of (answer params left c None rows (tables_covered (scope params c None) v))) v
unfolding answer scope
absent_placed params left (command.Create table ds key) v rows none = create_placed v left (name_of table) (defined_schema ds key) none
absent_placed params left (command.Insert table names values) v rows none = nothing v
absent_placed params left (command.Update table assignments f) v rows none = nothing v
absent_placed params left (command.Delete table f) v rows none = nothing v
absent_placed params left (command.Select names table f) v rows none = nothing v

module _ (puts : Put) (removed : Removed) (tables : TablesAreTables) (found : FoundAreRows) where
  found_placed : (params : List Value) (left : ℕ) (c : Command) (v : Store) (schema : Schema) (rows : List (List ℕ)) (n : ℕ) → is_name (table_name c) ≡ true → is_schema schema ≡ true → schema_of v (table_name c) ≡ Some schema → list_all (is_row schema) rows ≡ true
      → ArePlaced (changes_of (answer params left c (Some schema) rows n)) v
  unfolding answer
  found_placed params left (command.Create table ds key) v schema rows n named good there all = nothing v
  found_placed params left (command.Insert table names values) v schema rows n named good there all =
      insert_placed puts removed v (name_of table) schema named good there left names (map (literal_value params) values) (filter (concerns params (command.Insert table names values) schema) rows)
  found_placed params left (command.Update table assignments f) v schema rows n named good there all =
      update_placed puts removed v left params (name_of table) schema assignments f (filter (concerns params (command.Update table assignments f) schema) rows) named good there
  found_placed params left (command.Delete table f) v schema rows n named good there all =
      delete_placed puts removed v left params (name_of table) schema f (filter (concerns params (command.Delete table f) schema) rows) named good there
      (kept_all (is_row schema) (concerns params (command.Delete table f) schema) rows all)
  found_placed params left (command.Select names table f) v schema rows n named good there all =
      make_then v (selected_places schema.columns names) _ (λ places is. make_none v (filter_fault params schema.columns f) _ (nothing v))

  placed_by : (params : List Value) (left : ℕ) (c : Command) (v : Store) → is_store v ≡ true → (o : Option Schema) → schema_of v (table_name c) ≡ o
      → ArePlaced (changes_of (answer params left c o (rows_covered (scope params c o) (table_name c) v) (tables_covered (scope params c o) v))) v
  placed_by params left c v good None is = absent_placed params left c v (rows_covered (scope params c None) (table_name c) v) is
  placed_by params left c v good (Some schema) is =
      found_placed params left c v schema (rows_covered (scope params c (Some schema)) (table_name c) v) (tables_covered (scope params c (Some schema)) v)
      (table_named v (table_name c) schema good is) (schema_good tables found v (table_name c) schema good is) is
      (covered_rows tables found v (table_name c) schema (scope params c (Some schema)) good is)

  covered_placed : (params : List Value) (left : ℕ) (c : Command) (v : Store) → is_store v ≡ true → ArePlaced (changes_of (covered_answer params left c v)) v
  covered_placed params left c v good = placed_by params left c v good (schema_of v (table_name c)) refl

  pub changes_placed : ChangesHavePlaces
  changes_placed (running s params) left v good = covered_placed params left s.command v good
  changes_placed (querying s params) left v good = covered_placed params left s.command v good
  changes_placed (describing s side) left v good = nothing v
