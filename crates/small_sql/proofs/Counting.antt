-- Rows that are counted one after the other.
use Rattle.std.proofs.Common.{◌≡◌, ℕ, ◌+◌, Bool, true, false, ◌&&◌, List, [], ◌∷◌, ◌++◌, Some, Result, Err, sym, ap, ◌∙◌, take, filter, cond, refl, subst}
use Rattle.std.specs.Prelude.{if◌then◌else◌}
use Rattle.std.specs.List.{list_all, slice_get}
use Rattle.std.proofs.lemmas.List.{append-nil}
use Rattle.std.proofs.lemmas.List.Elements.{filter_more}
use Rattle.std.proofs.lemmas.List.Folds.{list_all_at}
use Rattle.std.proofs.lemmas.Option.{get_or_from_slice_get, slice_get_within}
use Rattle.row_values.specs.Schema.{Schema}
use Rattle.row_values.specs.Row.{is_row, values_in}
use Rattle.row_values.specs.declared.row.ReadError.{ReadError}
use Rattle.row_values.specs.declared.row.ReadError.TheVariants.{Damaged, NoMemory}
use Rattle.row_values.specs.Value.{Value}
use Rattle.tables.specs.RowList.{RowList}
use Rattle.sql_predicates.specs.Test.{passes}
use Rattle.sql_predicates.specs.declared.filter.Filter.{Filter}
use Rattle.small_sql.specs.Reading.{DamagedBy}

one_more : (p : List ℕ → Bool) (rows : List (List ℕ)) (i : ℕ) (row : List ℕ) → slice_get rows i ≡ Some row → filter p (take (i + 1) rows) ≡ filter p (take i rows) ++ cond (p row) (row ∷ []) []
one_more p rows i row at =
    filter_more p rows i row (slice_get_within rows i row at)
    ∙ ap (λ (x : List ℕ). filter p (take i rows) ++ cond (p x) (x ∷ []) []) (get_or_from_slice_get rows i row row at)

more_by : (b : Bool) (start : RowList) (rows more : List (List ℕ)) (row : List ℕ) → more ≡ rows ++ cond b (row ∷ []) []
    → (if b then record start { rows = rows ++ row ∷ [] } else record start { rows = rows }) ≡ record start { rows = more }
more_by true start rows more row is = ap (λ (r : List (List ℕ)). record start { rows = r }) (sym is)
more_by false start rows more row is = ap (λ (r : List (List ℕ)). record start { rows = r }) (sym (is ∙ append-nil rows))

-- the list with one row more, where it matches
pub one_counted : (wanted : Filter) (start list new : RowList) (rows : List (List ℕ)) (i : ℕ) (row : List ℕ) → list.schema ≡ start.schema → slice_get rows i ≡ Some row
    → list ≡ record start { rows = filter (λ row. passes wanted (values_in start.schema row)) (take i rows) }
    → new ≡ (if passes wanted (values_in list.schema row) then record list { rows = list.rows ++ row ∷ [] } else list)
    → new ≡ record start { rows = filter (λ row. passes wanted (values_in start.schema row)) (take (i + 1) rows) }
one_counted wanted start list new rows i row same at so added =
    let p : List ℕ → Bool = λ row. passes wanted (values_in start.schema row) in
    added
    ∙ ap (λ (l : RowList). if passes wanted (values_in l.schema row) then record l { rows = l.rows ++ row ∷ [] } else l) so
    ∙ more_by (p row) start (filter p (take i rows)) (filter p (take (i + 1) rows)) row (one_more p rows i row at)

-- the list with one row more is of the same schema
pub same_schema : (start new : RowList) (rows : List (List ℕ)) → new ≡ record start { rows = rows } → new.schema ≡ start.schema
same_schema start new rows is = ap (λ (l : RowList). l.schema) is

certain : (b : Bool) → (b ≡ false → ⊥) → b ≡ true
certain true not_false = refl
certain false not_false = absurd (not_false refl)

never : true ≡ false → ⊥
never e = cc

-- where all rows pass, each one does
pub row_passes : (p : List ℕ → Bool) (rows : List (List ℕ)) (i : ℕ) (row : List ℕ) → list_all p rows ≡ true → slice_get rows i ≡ Some row → p row ≡ true
row_passes p rows i row all at =
    certain (p row) (λ fails. never (sym all ∙ list_all_at p rows i row (slice_get_within rows i row at) (ap p (get_or_from_slice_get rows i row row at) ∙ fails)))

alone : (schema : Schema) (row : List ℕ) (b : Bool) → is_row schema row ≡ b → list_all (is_row schema) (row ∷ []) ≡ false → b ≡ false
alone schema row true is bad = sym (ap (λ (b : Bool). b && true) is) ∙ bad
alone schema row false is bad = refl

damage_told : (A B : Type 0) (start : Schema) (at : Schema) (rows : List (List ℕ)) (i : ℕ) (row : List ℕ) (e : ReadError) → at ≡ start → slice_get rows i ≡ Some row
    → DamagedBy {A = A} at (row ∷ []) (Err e) → DamagedBy {A = B} start rows (Err e)
damage_told A B start at rows i row Damaged same there bad =
    list_all_at (is_row start) rows i row (slice_get_within rows i row there)
    (ap (is_row start) (get_or_from_slice_get rows i row row there) ∙ alone start row (is_row start row) refl (ap (λ (s : Schema). list_all (is_row s) (row ∷ [])) (sym same) ∙ bad))
damage_told A B start at rows i row NoMemory same there bad = tt

-- one row that is damaged is enough
pub with_damage : (A B : Type 0) (start : Schema) (at : Schema) (rows : List (List ℕ)) (i : ℕ) (row : List ℕ) (e : ReadError) (result : Result B ReadError) → at ≡ start → slice_get rows i ≡ Some row
    → DamagedBy {A = A} at (row ∷ []) (Err e) → result ≡ Err e → DamagedBy start rows result
with_damage A B start at rows i row e result same there bad is = subst (DamagedBy {A = B} start rows) (sym is) (damage_told A B start at rows i row e same there bad)

-- where every row passes, none is left out
pub all_pass : (f : Filter) (schema : Schema) (rows : List (List ℕ)) → ((values : List Value) → passes f values ≡ true) → filter (λ row. passes f (values_in schema row)) rows ≡ rows
all_pass f schema [] every = refl
all_pass f schema (row ∷ rows) every =
    let others : List (List ℕ) = filter (λ r. passes f (values_in schema r)) rows in
    ap (λ (b : Bool). if b then row ∷ others else others) (every (values_in schema row)) ∙ ap (λ (rs : List (List ℕ)). row ∷ rs) (all_pass f schema rows every)
