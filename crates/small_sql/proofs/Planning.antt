-- What a statement of a table that is there is to do.
use Rattle.std.proofs.Common.{◌≡◌, ℕ, Bool, List, [], ◌∷◌, Option, Some, None, Ok, Err, refl, sym, ap, subst, ◌∙◌, length, map}
use Rattle.std.specs.Prelude.{filter, IfSome}
use Rattle.sql_text.specs.declared.tree.Assignment.{Assignment}
use Rattle.sql_text.specs.declared.tree.Columns.{Columns}
use Rattle.sql_text.specs.declared.tree.Command.{Command}
use Rattle.sql_text.specs.declared.tree.Command.TheVariants as command
use Rattle.sql_text.specs.declared.tree.Definition.{Definition}
use Rattle.sql_text.specs.declared.tree.KeyColumn.{KeyColumn}
use Rattle.sql_text.specs.declared.tree.Literal.{Literal}
use Rattle.sql_text.specs.declared.tree.Predicate.{Predicate}
use Rattle.sql_text.specs.declared.tree.Sum.{Sum}
use Rattle.row_values.specs.Value.{Value}
use Rattle.row_values.specs.Schema.{Schema, picked}
use Rattle.row_values.specs.Row.{values_in}
use Rattle.row_values.specs.Key.{row_key}
use Rattle.tables.specs.Change.{remove}
use Rattle.core_calls.specs.declared.sql_fault.SqlFault.{SqlFault}
use Rattle.core_calls.specs.declared.sql_fault.SqlFault.TheVariants as fault
use Rattle.core_calls.specs.StatementError.{fault_of}
use Rattle.core_calls.specs.declared.statement_error.StatementError.{StatementError}
use Rattle.core_calls.specs.declared.statement_error.StatementError.TheVariants as statement
use Rattle.sql_semantics.specs.Checked.{Checked, and_then, fault_in, if_none}
use Rattle.sql_semantics.specs.Classes.{filter_fault, selected_places}
use Rattle.sql_semantics.specs.Insert.{fitting_key, given_key, given_row}
use Rattle.sql_semantics.specs.Keys.{key_of_values}
use Rattle.sql_semantics.specs.Meaning.{Answer, Refused, Rows, answer, answered, has_key, put_answer, within_room}
use Rattle.sql_semantics.specs.Scope.{Scope, scope_by}
use Rattle.sql_semantics.specs.Truth.{matches}
use Rattle.sql_semantics.specs.Update.{targets, updated_rows}
use Rattle.sql_semantics.specs.Values.{literal_value, name_of}
use Rattle.sql_predicates.specs.Binding.{RefusedFor}
use Rattle.sql_predicates.specs.Test.{passes}
use Rattle.sql_predicates.specs.declared.filter.Filter.{Filter}
use Rattle.sql_changes.specs.Assigned.{StandFor}
use Rattle.sql_changes.specs.declared.target.Targets.{Targets}
use Rattle.small_sql.specs.Scope.{key_in}
use Rattle.small_sql.specs.Task.{DoesFound, IsRefused, Updates, inserted, matching, removed}
use Rattle.small_sql.specs.declared.task.Task.{Task}

-- ---- CREATE TABLE

pub create_refused : (params : List Value) (schema : Schema) (table : List ℕ) (definitions : List Definition) (key : List KeyColumn) → IsRefused params (command.Create table definitions key) schema fault.TableExists
unfolding answer
create_refused params schema table definitions key = λ left rows tables. refl

-- ---- INSERT

key_of_scope : (k : Option (List ℕ)) → key_in (scope_by k) ≡ k
key_of_scope None = refl
key_of_scope (Some key) = refl

module _ (params : List Value) (schema : Schema) (table : List ℕ) (named : Columns) (values : List Literal) where
  abbrev given : List Value
  given = map (literal_value params) values

  pub insert_refused : (e : StatementError) (f : SqlFault) → e ≡ statement.Fault f → IfSome (fault_of e) (λ f. given_row schema named given ≡ Err f) → IsRefused params (command.Insert table named values) schema f
  unfolding answer
  insert_refused e f is answers = λ left rows tables.
      ap (λ (r : Checked (List Value)). answered (and_then r (put_answer left (name_of table) schema (filter (has_key schema (given_key schema named given)) rows))))
      (subst (λ (e : StatementError). IfSome (fault_of e) (λ f. given_row schema named given ≡ Err f)) is answers)

  -- where the row is refused there is no key
  pub no_key : (e : StatementError) (f : SqlFault) → e ≡ statement.Fault f → IfSome (fault_of e) (λ f. given_row schema named given ≡ Err f) → scope_by None ≡ scope_by (given_key schema named given)
  unfolding given_key
  no_key e f is answers = sym (ap (λ (r : Checked (List Value)). scope_by (fitting_key schema r)) (subst (λ (e : StatementError). IfSome (fault_of e) (λ f. given_row schema named given ≡ Err f)) is answers))

  key_is : (row : List Value) → given_row schema named given ≡ Ok row → given_key schema named given ≡ key_of_values schema (picked row schema.key)
  unfolding given_key
  key_is row is = ap (fitting_key schema) is

  pub insert_scope : (row : List Value) → given_row schema named given ≡ Ok row → (k : Option (List ℕ)) → k ≡ key_of_values schema (picked row schema.key) → (w : Scope) → w ≡ scope_by k → w ≡ scope_by (given_key schema named given)
  insert_scope row is k key_of w by = by ∙ ap scope_by (key_of ∙ sym (key_is row is))

  pub insert_does : (row : List Value) → given_row schema named given ≡ Ok row → (k : Option (List ℕ)) → k ≡ key_of_values schema (picked row schema.key) → (w : Scope) → w ≡ scope_by k
      → (left : ℕ) (rows : List (List ℕ)) (tables : ℕ) → answer params left (command.Insert table named values) (Some schema) rows tables ≡ inserted (name_of table) schema left (key_in w) row rows
  unfolding answer
  insert_does row is k key_of w by = λ left rows tables.
      ap (λ (r : Checked (List Value)). answered (and_then r (put_answer left (name_of table) schema (filter (has_key schema (given_key schema named given)) rows)))) is
      ∙ ap (λ (q : Option (List ℕ)). answered (put_answer left (name_of table) schema (filter (has_key schema q) rows) row)) (key_is row is ∙ sym key_of ∙ sym (ap key_in by ∙ key_of_scope k))

-- ---- a WHERE

-- tests that say the same of each row pass the same rows
filter_same : (f g : List ℕ → Bool) → ((row : List ℕ) → f row ≡ g row) → (rows : List (List ℕ)) → filter f rows ≡ filter g rows
filter_same f g same [] = refl
filter_same f g same (row ∷ rows) = rw (same row, filter_same f g same rows) refl

matching_is : (params : List Value) (schema : Schema) (where_ : Option Predicate) (p : Filter) → ((values : List Value) → passes p values ≡ matches params schema.columns values where_)
    → (rows : List (List ℕ)) → filter (λ row. matches params schema.columns (values_in schema row) where_) rows ≡ matching p schema rows
matching_is params schema where_ p tests rows =
    filter_same (λ row. matches params schema.columns (values_in schema row) where_) (λ row. passes p (values_in schema row)) (λ row. sym (tests (values_in schema row))) rows

fault_found : (X : Type 0) (o : Option SqlFault) (e : StatementError) (f : SqlFault) → e ≡ statement.Fault f → RefusedFor {A = X} o (Err e) → o ≡ Some f
fault_found X o e f is refused = subst (λ (e : StatementError). RefusedFor {A = X} o (Err e)) is refused

-- ---- DELETE

module _ (params : List Value) (schema : Schema) (table : List ℕ) (where_ : Option Predicate) where
  abbrev matched : List (List ℕ) → List (List ℕ)
  matched rows = filter (λ row. matches params schema.columns (values_in schema row) where_) rows

  abbrev removed_in : ℕ → List (List ℕ) → Checked Answer
  removed_in left rows = within_room left (map (λ row. remove (name_of table) (row_key schema row)) rows) (length rows)

  pub delete_refused : (e : StatementError) (f : SqlFault) → e ≡ statement.Fault f → RefusedFor {A = Filter} (filter_fault params schema.columns where_) (Err e) → IsRefused params (command.Delete table where_) schema f
  unfolding answer
  delete_refused e f is refused = λ left rows tables.
      ap (λ (o : Option SqlFault). answered (if_none o (removed_in left (matched rows)))) (fault_found Filter (filter_fault params schema.columns where_) e f is refused)

  pub delete_does : (p : Filter) → filter_fault params schema.columns where_ ≡ None → ((values : List Value) → passes p values ≡ matches params schema.columns values where_)
      → (left : ℕ) (rows : List (List ℕ)) (tables : ℕ) → answer params left (command.Delete table where_) (Some schema) rows tables ≡ removed (name_of table) schema left (matching p schema rows)
  unfolding answer
  delete_does p fine tests = λ left rows tables.
      ap (λ (o : Option SqlFault). answered (if_none o (removed_in left (matched rows)))) fine
      ∙ ap (λ (rs : List (List ℕ)). answered (removed_in left rs)) (matching_is params schema where_ p tests rows)

-- ---- SELECT

module _ (params : List Value) (schema : Schema) (table : List ℕ) (named : Columns) (where_ : Option Predicate) where
  abbrev told : List (List ℕ) → List (List ℕ)
  told rows = filter (λ row. matches params schema.columns (values_in schema row) where_) rows

  abbrev listed : List (List ℕ) → List ℕ → Answer
  listed rows places = Rows (record { schema = schema; selected = places; rows = rows })

  abbrev checked_list : List (List ℕ) → List ℕ → Checked Answer
  checked_list rows places = if_none (filter_fault params schema.columns where_) (Ok (listed rows places))

  pub places_refused : (e : StatementError) (f : SqlFault) → e ≡ statement.Fault f → IfSome (fault_of e) (λ f. selected_places schema.columns named ≡ Err f) → IsRefused params (command.Select named table where_) schema f
  unfolding answer
  places_refused e f is answers = λ left rows tables.
      ap (λ (r : Checked (List ℕ)). answered (and_then r (checked_list (told rows))))
      (subst (λ (e : StatementError). IfSome (fault_of e) (λ f. selected_places schema.columns named ≡ Err f)) is answers)

  pub select_refused : (places : List ℕ) → selected_places schema.columns named ≡ Ok places → (e : StatementError) (f : SqlFault) → e ≡ statement.Fault f → RefusedFor {A = Filter} (filter_fault params schema.columns where_) (Err e)
      → IsRefused params (command.Select named table where_) schema f
  unfolding answer
  select_refused places selects e f is refused = λ left rows tables.
      ap (λ (r : Checked (List ℕ)). answered (and_then r (checked_list (told rows)))) selects
      ∙ ap (λ (o : Option SqlFault). answered (if_none o (Ok (listed (told rows) places)))) (fault_found Filter (filter_fault params schema.columns where_) e f is refused)

  pub select_does : (places : List ℕ) → selected_places schema.columns named ≡ Ok places → (p : Filter) → filter_fault params schema.columns where_ ≡ None → ((values : List Value) → passes p values ≡ matches params schema.columns values where_)
      → (left : ℕ) (rows : List (List ℕ)) (tables : ℕ) → answer params left (command.Select named table where_) (Some schema) rows tables ≡ Rows (record { schema = schema; selected = places; rows = matching p schema rows })
  unfolding answer
  select_does places selects p fine tests = λ left rows tables.
      ap (λ (r : Checked (List ℕ)). answered (and_then r (checked_list (told rows)))) selects
      ∙ ap (λ (o : Option SqlFault). answered (if_none o (Ok (listed (told rows) places)))) fine
      ∙ ap (λ (rs : List (List ℕ)). listed rs places) (matching_is params schema where_ p tests rows)

-- ---- UPDATE

some_same : (x e : SqlFault) → Some x ≡ Some e → x ≡ e
some_same x e h = cc

by_targets_fault : (X : Type 0) (r : Checked X) (go : X → Checked Answer) (e : SqlFault) → fault_in {A = X} r ≡ Some e → answered (and_then {A = X} {B = Answer} r go) ≡ Refused e
by_targets_fault X (Ok x) go e h = absurd cc
by_targets_fault X (Err f) go e h = ap Refused (some_same f e h)

-- what is checked where there is no fault
abbrev Fine : {X : Type 0} → Checked X → Type 0
Fine {X = X} r = (x : X) × (r ≡ Ok x)

fine : (X : Type 0) (r : Checked X) → fault_in {A = X} r ≡ None → Fine r
fine X (Ok x) h = (x, refl)
fine X (Err f) h = absurd cc

module _ (params : List Value) (schema : Schema) (table : List ℕ) (assignments : List Assignment) (where_ : Option Predicate) where
  abbrev counted : List (List ℕ) → List (List ℕ)
  counted rows = filter (λ row. matches params schema.columns (values_in schema row) where_) rows

  abbrev targets_in : Checked (List (ℕ × Sum))
  targets_in = targets params schema.columns schema.key [] assignments

  abbrev updated_in : ℕ → List (ℕ × Sum) → List (List ℕ) → Checked Answer
  updated_in left ts rows = and_then (updated_rows params (name_of table) schema ts rows) (λ changes. within_room left changes (length rows))

  abbrev checked_in : ℕ → List (List ℕ) → List (ℕ × Sum) → Checked Answer
  checked_in left rows ts = if_none (filter_fault params schema.columns where_) (updated_in left ts rows)

  pub targets_refused : (e : StatementError) (f : SqlFault) → e ≡ statement.Fault f → RefusedFor {A = Targets} (fault_in targets_in) (Err e) → IsRefused params (command.Update table assignments where_) schema f
  unfolding answer
  targets_refused e f is refused = λ left rows tables.
      by_targets_fault (List (ℕ × Sum)) targets_in (checked_in left (counted rows)) f (fault_found Targets (fault_in targets_in) e f is refused)

  pub update_refused : fault_in targets_in ≡ None → (e : StatementError) (f : SqlFault) → e ≡ statement.Fault f → RefusedFor {A = Filter} (filter_fault params schema.columns where_) (Err e) → IsRefused params (command.Update table assignments where_) schema f
  unfolding answer
  update_refused none e f is refused = λ left rows tables.
      let whole = fine (List (ℕ × Sum)) targets_in none in
      ap (λ (r : Checked (List (ℕ × Sum))). answered (and_then r (checked_in left (counted rows)))) whole.1
      ∙ ap (λ (o : Option SqlFault). answered (if_none o (updated_in left whole.0 (counted rows)))) (fault_found Filter (filter_fault params schema.columns where_) e f is refused)

  pub update_does : (bound : Targets) → fault_in targets_in ≡ None → ((ts : List (ℕ × Sum)) → targets_in ≡ Ok ts → StandFor params schema.columns bound ts)
      → (p : Filter) → filter_fault params schema.columns where_ ≡ None → ((values : List Value) → passes p values ≡ matches params schema.columns values where_)
      → Updates params (command.Update table assignments where_) schema bound p
  unfolding answer
  update_does bound none stands p passed tests =
      let whole = fine (List (ℕ × Sum)) targets_in none in
      record {
        meant = whole.0;
        stand = stands whole.0 whole.1;
        come = λ left rows tables.
            ap (λ (r : Checked (List (ℕ × Sum))). answered (and_then r (checked_in left (counted rows)))) whole.1
            ∙ ap (λ (o : Option SqlFault). answered (if_none o (updated_in left whole.0 (counted rows)))) passed
            ∙ ap (λ (rs : List (List ℕ)). answered (updated_in left whole.0 rs)) (matching_is params schema where_ p tests rows);
      }

-- ---- of whatever kind

-- of a statement and of a task by other names
pub does_by : (params : List Value) (schema : Schema) (w : Scope) (c d : Command) → c ≡ d → (t u : Task) → t ≡ u → DoesFound params d schema w u → DoesFound params c schema w t
does_by params schema w c d same t u is does = subst (λ (x : Command). DoesFound params x schema w t) (sym same) (subst (λ (x : Task). DoesFound params d schema w x) (sym is) does)
