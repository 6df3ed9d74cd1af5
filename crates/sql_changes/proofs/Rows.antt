-- Rows that are put one after another.
use Rattle.std.proofs.Common.{◌≡◌, ◌<◌, length, ◌+◌, ℕ, List, [], ◌∷◌, ◌++◌, Some, Ok, Err, Result, drop, get_or, map, refl, sym, ap, subst, ◌∙◌, add-one}
use Rattle.std.specs.Prelude.{IfSome}
use Rattle.std.specs.List.{slice_get}
use Rattle.std.proofs.lemmas.Option.{get_or_from_slice_get, slice_get_within}
use Rattle.std.proofs.lemmas.List.{map-append}
use Rattle.std.proofs.Math.Seq.{drop-cons}
use Rattle.drda_words.specs.Excuse.{Answers}
use Rattle.sql_text.specs.declared.tree.Sum.{Sum}
use Rattle.row_values.specs.Value.{Value}
use Rattle.row_values.specs.Schema.{Schema}
use Rattle.tables.specs.Change.{Change, put}
use Rattle.tables.specs.ChangeView.{change_of}
use Rattle.tables.specs.declared.change.Change.{Change as CodeChange}
use Rattle.core_calls.specs.declared.sql_fault.SqlFault.{SqlFault}
use Rattle.core_calls.specs.declared.statement_error.StatementError.{StatementError}
use Rattle.core_calls.specs.declared.statement_error.StatementError.TheVariants as statement
use Rattle.core_calls.specs.StatementError.{fault_of}
use Rattle.sql_semantics.specs.Checked.{Checked, and_then}
use Rattle.sql_semantics.specs.Update.{updated_row, updated_rows}
use Rattle.sql_changes.specs.Assigned.{StandFor}
use Rattle.sql_changes.specs.declared.target.Targets.{Targets}
use Rattle.sql_changes.proofs.Checks.{joins, then_then}

split_at : (rows : List (List ℕ)) (i : ℕ) (row : List ℕ) → slice_get rows i ≡ Some row → drop i rows ≡ row ∷ drop (i + 1) rows
split_at rows i row at =
    let below : i < length rows = slice_get_within rows i row at in
    let first : get_or rows i row ≡ row = get_or_from_slice_get rows i row row at in
    let cons : drop i rows ≡ get_or rows i row ∷ drop (i + 1) rows = rw (add-one, drop-cons rows i row) refl in
    cons ∙ ap (λ (r : List ℕ). r ∷ drop (i + 1) rows) first

-- the change that puts a row
abbrev pub one : List Value → List ℕ → Schema → List (ℕ × Sum) → List ℕ → Checked Change
one params table schema ts row = and_then (updated_row params schema ts row) (λ bytes. Ok (put table bytes))

module _ (params : List Value) (table : List ℕ) (schema : Schema) (ts : List (ℕ × Sum)) where
  abbrev after : List (List ℕ) → Change → Checked (List Change)
  after rows x = and_then (updated_rows params table schema ts rows) (λ ds. Ok (x ∷ ds))

  first_row : (row : List ℕ) (rows : List (List ℕ)) → updated_rows params table schema ts (row ∷ rows) ≡ and_then (one params table schema ts row) (after rows)
  first_row row rows = sym (then_then (List ℕ) Change (List Change) (λ bytes. Ok (put table bytes)) (after rows) (updated_row params schema ts row))

  at_row : (rows : List (List ℕ)) (i : ℕ) (row : List ℕ) (r : Checked Change) → slice_get rows i ≡ Some row → one params table schema ts row ≡ r → updated_rows params table schema ts (drop i rows) ≡ and_then r (after (drop (i + 1) rows))
  at_row rows i row r at is =
      ap (updated_rows params table schema ts) (split_at rows i row at) ∙ first_row row (drop (i + 1) rows) ∙ ap (λ (c : Checked Change). and_then c (after (drop (i + 1) rows))) is

  abbrev pub With : List (List ℕ) → ℕ → List Change → Type 0
  With rows i done = and_then (updated_rows params table schema ts (drop i rows)) (λ more. Ok (done ++ more)) ≡ updated_rows params table schema ts rows

  steps : (rows : List (List ℕ)) (i : ℕ) (row : List ℕ) (x : Change) (done : List Change) → slice_get rows i ≡ Some row → one params table schema ts row ≡ Ok x → With rows i done → With rows (i + 1) (done ++ x ∷ [])
  steps rows i row x done at is so =
      joins Change done x (updated_rows params table schema ts (drop (i + 1) rows))
      ∙ sym (ap (λ (r : Checked (List Change)). and_then r (λ more. Ok (done ++ more))) (at_row rows i row (Ok x) at is))
      ∙ so

  stops : (rows : List (List ℕ)) (i : ℕ) (row : List ℕ) (e : SqlFault) (done : List Change) → slice_get rows i ≡ Some row → one params table schema ts row ≡ Err e → With rows i done → updated_rows params table schema ts rows ≡ Err e
  stops rows i row e done at is so = sym so ∙ ap (λ (r : Checked (List Change)). and_then r (λ more. Ok (done ++ more))) (at_row rows i row (Err e) at is)

-- ---- for all targets that the bound ones stand for

pub one_more : (targets : Targets) (table : List ℕ) (schema at : Schema) (rows : List (List ℕ)) (i : ℕ) (row : List ℕ) (xs ys : List CodeChange) (x : CodeChange) → at ≡ schema → slice_get rows i ≡ Some row → ys ≡ xs ++ x ∷ []
    → ((params : List Value) (ts : List (ℕ × Sum)) → StandFor params at.columns targets ts → one params table at ts row ≡ Ok (change_of x))
    → ((params : List Value) (ts : List (ℕ × Sum)) → StandFor params schema.columns targets ts → With params table schema ts rows i (map change_of xs))
    → (params : List Value) (ts : List (ℕ × Sum)) → StandFor params schema.columns targets ts → With params table schema ts rows (i + 1) (map change_of ys)
one_more targets table schema at rows i row xs ys x same there pushed puts so params ts stand =
    let put_so = subst (λ (s : Schema). (params : List Value) (ts : List (ℕ × Sum)) → StandFor params s.columns targets ts → one params table s ts row ≡ Ok (change_of x)) same puts in
    subst (λ (done : List Change). With params table schema ts rows (i + 1) done) (sym (ap (map change_of) pushed ∙ map-append change_of xs (x ∷ [])))
    (steps params table schema ts rows i row (change_of x) (map change_of xs) there (put_so params ts stand) (so params ts stand))

-- what is refused for a row is refused for all
abbrev RefusedSo : StatementError → {A : Type 0} → Checked A → Type 0
RefusedSo e p = IfSome (fault_of e) (λ fault. p ≡ Err fault)

refused_by : (A B : Type 0) (e : StatementError) (p : Checked A) (q : Checked B) → ((fault : SqlFault) → p ≡ Err fault → q ≡ Err fault) → RefusedSo e p → RefusedSo e q
refused_by A B (statement.Fault fault) p q goes is = goes fault is
refused_by A B statement.NoMemory p q goes is = tt

pub row_refused : (X : Type 0) (view : X → List Change) (result : Result X StatementError) (targets : Targets) (table : List ℕ) (schema at : Schema) (rows : List (List ℕ)) (i : ℕ) (row : List ℕ) (xs : List CodeChange) (e : StatementError) → at ≡ schema → slice_get rows i ≡ Some row → result ≡ Err e
    → ((params : List Value) (ts : List (ℕ × Sum)) → StandFor params at.columns targets ts → RefusedSo e (one params table at ts row))
    → ((params : List Value) (ts : List (ℕ × Sum)) → StandFor params schema.columns targets ts → With params table schema ts rows i (map change_of xs))
    → (params : List Value) (ts : List (ℕ × Sum)) → StandFor params schema.columns targets ts → Answers view fault_of result (updated_rows params table schema ts rows)
row_refused X view result targets table schema at rows i row xs e same there is refuses so params ts stand =
    let refuses_so = subst (λ (s : Schema). (params : List Value) (ts : List (ℕ × Sum)) → StandFor params s.columns targets ts → RefusedSo e (one params table s ts row)) same refuses in
    subst (λ (r : Result X StatementError). Answers view fault_of r (updated_rows params table schema ts rows)) (sym is)
    (refused_by Change (List Change) e (one params table schema ts row) (updated_rows params table schema ts rows) (λ fault bad. stops params table schema ts rows i row fault (map change_of xs) there bad (so params ts stand)) (refuses_so params ts stand))
