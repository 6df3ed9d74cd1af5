-- A row of which a predicate is true has the key that the predicate fixes.
use Rattle.std.proofs.Common.{◌≡◌, ℕ, List, [], ◌∷◌, Bool, true, false, ◌||◌, refl, sym, ap, ◌∙◌, Option, Some, None, eqb-true}
use Rattle.std.specs.Prelude.{if◌then◌else◌, map, unwrap_or}
use Rattle.std.specs.Option.{option_and_then, option_or}
use Rattle.std.specs.List.{list_all, slice_get}
use Rattle.std.proofs.lemmas.Slice.Eq.{bytes_eq-Decides}
use Rattle.sql_lex.specs.declared.token.Comparison.{Comparison}
use Rattle.sql_lex.specs.declared.token.Comparison.TheVariants as op
use Rattle.sql_text.specs.declared.tree.Term.{Term}
use Rattle.sql_text.specs.declared.tree.Term.TheVariants as term
use Rattle.sql_text.specs.declared.tree.Predicate.{Predicate, out-Predicate}
use Rattle.sql_text.specs.declared.tree.Predicate.TheOpen.{Predicate-F}
use Rattle.sql_text.specs.declared.tree.Predicate.TheFolds.{fold_out-Predicate}
use Rattle.sql_text.specs.declared.tree.Command.{Command}
use Rattle.sql_text.specs.declared.tree.Command.TheVariants as command
use Rattle.row_values.specs.Value.{Value, null, value_cmp}
use Rattle.row_values.specs.Column.{Column, fits}
use Rattle.row_values.specs.Schema.{Schema, key_columns, picked}
use Rattle.row_values.specs.Row.{all_fit, row_bytes, values_in}
use Rattle.sql_semantics.specs.Keys.{key_of_values, values_key}
use Rattle.row_values.specs.Key.{row_key}
use Rattle.sql_semantics.specs.Values.{column_place, literal_value, named_value, term_value}
use Rattle.sql_semantics.specs.Truth.{all_of, any_of, both, compared, matches, either, holds, is_null, layer_truth, passes, truth, truth_of}
use Rattle.sql_semantics.specs.Insert.{given_key}
use Rattle.sql_semantics.specs.Scope.{One, all_fixed, conjuncts, cons_some, equated, filter_key, fit_at, fitting, fixed, fixed_by, fixed_key, is_place, is_plain_part, parts_in_all, parts_in_any, scope_by, scope_in}
use Rattle.sql_semantics.specs.Meaning.{concerns, has_key}
use Rattle.sql_semantics.specs.declared.truth.Truth.{Truth}
use Rattle.sql_semantics.specs.declared.truth.Truth.TheVariants.{Holds, Fails, Unknown}
use Rattle.sql_semantics.proofs.Exact.{datum_exact, is_equal}

pub it_holds : (t : Truth) → holds t ≡ true → t ≡ Holds
it_holds Holds h = refl
it_holds Fails h = absurd cc
it_holds Unknown h = absurd cc

any_one : (t : Truth) → either t Fails ≡ Holds → t ≡ Holds
any_one Holds h = refl
any_one Fails h = absurd cc
any_one Unknown h = absurd cc

both_hold : (t u : Truth) → both t u ≡ Holds → (t ≡ Holds) × (u ≡ Holds)
both_hold Holds u h = (refl, h)
both_hold Fails u h = absurd cc
both_hold Unknown Holds h = absurd cc
both_hold Unknown Fails h = absurd cc
both_hold Unknown Unknown h = absurd cc

true_of : (b : Bool) → truth_of b ≡ Holds → b ≡ true
true_of true h = refl
true_of false h = absurd cc

-- a comparison holds of what is not NULL and passes the test
compared_holds : (c : Comparison) (a b : Value) (n : Bool) → n ≡ (is_null a || is_null b) → (if n then Unknown else truth_of (passes c (value_cmp a b))) ≡ Holds → passes c (value_cmp a b) ≡ true
compared_holds c a b true is h = absurd cc
compared_holds c a b false is h = true_of (passes c (value_cmp a b)) h

equal_holds : (a b : Value) → compared op.Equal a b ≡ Holds → a ≡ b
unfolding compared
equal_holds a b h = datum_exact a b (is_equal (value_cmp a b) (compared_holds op.Equal a b (is_null a || is_null b) refl h))

some_inside : {A : Type 0} (x y : A) → Some x ≡ Some y → x ≡ y
some_inside x y h = cc

no_some : {A : Type 0} (x : A) → None ≡ Some x → ⊥
no_some x h = absurd cc

value_there : (o : Option Value) (v : Value) → unwrap_or o null ≡ v → is_null v ≡ false → o ≡ Some v
value_there None v is some = absurd (null_is v is some)
  where
    null_is : (v : Value) → null ≡ v → is_null v ≡ false → ⊥
    null_is v is some = let e = ap is_null is in cc
value_there (Some w) v is some = ap Some is

place_is : (place : ℕ) (o : Option ℕ) → is_place place o ≡ true → o ≡ Some place
place_is place None h = absurd cc
place_is place (Some p) h = ap Some (eqb-true p place h)

fitting_by : (column : Column) (w v : Value) (n f : Bool) → is_null w ≡ n → (if n then None else (if f then Some w else None)) ≡ Some v → (w ≡ v) × (is_null v ≡ false)
fitting_by column w v true f is h = absurd (no_some v h)
fitting_by column w v false true is h = let same = some_inside w v h in (same, ap is_null (sym same) ∙ is)
fitting_by column w v false false is h = absurd (no_some v h)

fitting_is : (o : Option Column) (w v : Value) → fitting o w ≡ Some v → (w ≡ v) × (is_null v ≡ false)
fitting_is None w v h = absurd (no_some v h)
fitting_is (Some column) w v h = fitting_by column w v (is_null w) (fits column w) refl h

fit_parts : (cs : List Column) (place : ℕ) (n : List ℕ) (w v : Value) (b : Bool) → is_place place (column_place cs n) ≡ b → (if b then fitting (slice_get cs place) w else None) ≡ Some v → (b ≡ true) × (w ≡ v) × (is_null v ≡ false)
fit_parts cs place n w v false is h = absurd (no_some v h)
fit_parts cs place n w v true is h = let f = fitting_is (slice_get cs place) w v h in (refl, f.0, f.1)

-- each of these is true
abbrev AllTrue : (Predicate → Truth) → List Predicate → Type 0
AllTrue t [] = Unit {0}
AllTrue t (p ∷ ps) = (t p ≡ Holds) × AllTrue t ps

module _ (params : List Value) (cs : List Column) (vs : List Value) where
  truth_any : (p : Predicate) (ps : List Predicate) → out-Predicate p ≡ Predicate-F.Any ps → truth params cs vs p ≡ any_of (map (truth params cs vs) ps)
  unfolding truth
  truth_any p ps e = rw e at (fold_out-Predicate Truth (layer_truth params cs vs) p)

  truth_all : (p : Predicate) (ps : List Predicate) → out-Predicate p ≡ Predicate-F.All ps → truth params cs vs p ≡ all_of (map (truth params cs vs) ps)
  unfolding truth
  truth_all p ps e = rw e at (fold_out-Predicate Truth (layer_truth params cs vs) p)

  truth_compare : (p : Predicate) (a b : Term) (c : Comparison) → out-Predicate p ≡ Predicate-F.Compare a c b → truth params cs vs p ≡ compared c (term_value params cs vs a) (term_value params cs vs b)
  unfolding truth
  truth_compare p a b c e = rw e at (fold_out-Predicate Truth (layer_truth params cs vs) p)

  all_hold : (ps : List Predicate) → all_of (map (truth params cs vs) ps) ≡ Holds → AllTrue (truth params cs vs) ps
  all_hold [] h = tt
  all_hold (p ∷ ps) h = let two = both_hold (truth params cs vs p) (all_of (map (truth params cs vs) ps)) h in (two.0, all_hold ps two.1)

  plain_hold : (ps : List Predicate) (b : Bool) → AllTrue (truth params cs vs) ps → AllTrue (truth params cs vs) (if b then ps else [])
  plain_hold ps true h = h
  plain_hold ps false h = tt

  in_all : (p : Predicate) (l : Predicate-F Predicate) → out-Predicate p ≡ l → truth params cs vs p ≡ Holds → AllTrue (truth params cs vs) (parts_in_all l)
  in_all p (Predicate-F.All ps) e h = plain_hold ps (list_all (λ p. is_plain_part (out-Predicate p)) ps) (all_hold ps (sym (truth_all p ps e) ∙ h))
  in_all p (Predicate-F.Any ps) e h = tt
  in_all p (Predicate-F.Not q) e h = tt
  in_all p (Predicate-F.Group q) e h = tt
  in_all p (Predicate-F.Compare a c b) e h = tt
  in_all p (Predicate-F.IsNull n b) e h = tt

  in_any : (p : Predicate) (l : Predicate-F Predicate) → out-Predicate p ≡ l → truth params cs vs p ≡ Holds → AllTrue (truth params cs vs) (parts_in_any l)
  in_any p (Predicate-F.Any []) e h = tt
  in_any p (Predicate-F.Any (q ∷ [])) e h = in_all q (out-Predicate q) refl (any_one (truth params cs vs q) (sym (truth_any p (q ∷ []) e) ∙ h))
  in_any p (Predicate-F.Any (q ∷ r ∷ rs)) e h = tt
  in_any p (Predicate-F.All ps) e h = tt
  in_any p (Predicate-F.Not q) e h = tt
  in_any p (Predicate-F.Group q) e h = tt
  in_any p (Predicate-F.Compare a c b) e h = tt
  in_any p (Predicate-F.IsNull n b) e h = tt

  -- where a predicate is true, so is each part of the conjunction that it is
  conjuncts_hold : (p : Predicate) → truth params cs vs p ≡ Holds → AllTrue (truth params cs vs) (conjuncts p)
  unfolding conjuncts
  conjuncts_hold p h = in_any p (out-Predicate p) refl h

  -- ---- one part

  named_there : (place : ℕ) (n : List ℕ) → column_place cs n ≡ Some place → named_value cs vs n ≡ unwrap_or (slice_get vs place) null
  named_there place n e = ap (λ o. unwrap_or (option_and_then (slice_get vs) o) null) e

  name_fixes : (place : ℕ) (n : List ℕ) (w v : Value) → fit_at cs place n w ≡ Some v → named_value cs vs n ≡ w → slice_get vs place ≡ Some v
  name_fixes place n w v h same =
      let f = fit_parts cs place n w v (is_place place (column_place cs n)) refl h in
      value_there (slice_get vs place) v (sym (named_there place n (place_is place (column_place cs n) f.0)) ∙ same ∙ f.1) f.2

  equated_fixes : (place : ℕ) (a b : Term) (v : Value) → equated params cs place a b ≡ Some v → term_value params cs vs a ≡ term_value params cs vs b → slice_get vs place ≡ Some v
  equated_fixes place (term.Column n) (term.Value l) v h same = name_fixes place n (literal_value params l) v h same
  equated_fixes place (term.Value l) (term.Column n) v h same = name_fixes place n (literal_value params l) v h (sym same)
  equated_fixes place (term.Column n) (term.Column m) v h same = absurd (no_some v h)
  equated_fixes place (term.Value l) (term.Value m) v h same = absurd (no_some v h)

  compare_fixes : (place : ℕ) (p : Predicate) (a b : Term) (c : Comparison) (v : Value) → out-Predicate p ≡ Predicate-F.Compare a c b → truth params cs vs p ≡ Holds → fixed_by params cs place (Predicate-F.Compare a c b) ≡ Some v → slice_get vs place ≡ Some v
  compare_fixes place p a b op.Equal v e t h = equated_fixes place a b v h (equal_holds (term_value params cs vs a) (term_value params cs vs b) (sym (truth_compare p a b op.Equal e) ∙ t))
  compare_fixes place p a b op.NotEqual v e t h = absurd (no_some v h)
  compare_fixes place p a b op.Less v e t h = absurd (no_some v h)
  compare_fixes place p a b op.LessEqual v e t h = absurd (no_some v h)
  compare_fixes place p a b op.Greater v e t h = absurd (no_some v h)
  compare_fixes place p a b op.GreaterEqual v e t h = absurd (no_some v h)

  part_fixes : (place : ℕ) (p : Predicate) (l : Predicate-F Predicate) (v : Value) → out-Predicate p ≡ l → truth params cs vs p ≡ Holds → fixed_by params cs place l ≡ Some v → slice_get vs place ≡ Some v
  part_fixes place p (Predicate-F.Compare a c b) v e t h = compare_fixes place p a b c v e t h
  part_fixes place p (Predicate-F.Any ps) v e t h = absurd (no_some v h)
  part_fixes place p (Predicate-F.All ps) v e t h = absurd (no_some v h)
  part_fixes place p (Predicate-F.Not q) v e t h = absurd (no_some v h)
  part_fixes place p (Predicate-F.Group q) v e t h = absurd (no_some v h)
  part_fixes place p (Predicate-F.IsNull n b) v e t h = absurd (no_some v h)

  -- ---- all parts

  fixed_first : (place : ℕ) (p : Predicate) (ps : List Predicate) (v : Value) (o : Option Value) → fixed_by params cs place (out-Predicate p) ≡ o → option_or o (fixed params cs place ps) ≡ Some v
      → truth params cs vs p ≡ Holds → (fixed params cs place ps ≡ Some v → slice_get vs place ≡ Some v) → slice_get vs place ≡ Some v
  fixed_first place p ps v None is h t more = more h
  fixed_first place p ps v (Some w) is h t more = part_fixes place p (out-Predicate p) v refl t (is ∙ h)

  -- what the parts fix a column to is its value
  fixed_value : (place : ℕ) (ps : List Predicate) (v : Value) → AllTrue (truth params cs vs) ps → fixed params cs place ps ≡ Some v → slice_get vs place ≡ Some v
  fixed_value place [] v t h = absurd (no_some v h)
  fixed_value place (p ∷ ps) v t h = fixed_first place p ps v (fixed_by params cs place (out-Predicate p)) refl h t.0 (fixed_value place ps v t.1)

  all_step : (place : ℕ) (places : List ℕ) (ps : List Predicate) (ds : List Value) (o : Option Value) (r : Option (List Value)) → fixed params cs place ps ≡ o → cons_some params cs o r ≡ Some ds → AllTrue (truth params cs vs) ps
      → ((es : List Value) → r ≡ Some es → picked vs places ≡ es) → picked vs (place ∷ places) ≡ ds
  all_step place places ps ds (Some v) (Some es) is h t more =
      let there = fixed_value place ps v t is in
      let rest = more es refl in
      rw (there, rest) (some_inside (v ∷ es) ds h)
  all_step place places ps ds (Some v) None is h t more = absurd (no_some ds h)
  all_step place places ps ds None r is h t more = absurd (no_some ds h)

  -- the values at the places that the parts fix
  all_values : (places : List ℕ) (ps : List Predicate) (ds : List Value) → AllTrue (truth params cs vs) ps → all_fixed params cs places ps ≡ Some ds → picked vs places ≡ ds
  all_values [] ps ds t h = some_inside [] ds h
  all_values (place ∷ places) ps ds t h = all_step place places ps ds (fixed params cs place ps) (all_fixed params cs places ps) refl h t (λ es. all_values places ps es t)

-- the key of values is that of their bytes
of_values : (schema : Schema) (ds : List Value) (k : List ℕ) → key_of_values schema ds ≡ Some k → values_key schema ds ≡ k
unfolding key_of_values
of_values schema ds k h = by (all_fit (key_columns schema) ds) h
  where
    by : (b : Bool) → (if b then Some (values_key schema ds) else None) ≡ Some k → values_key schema ds ≡ k
    by true g = some_inside (values_key schema ds) k g
    by false g = absurd (no_some k g)

fixed_by_all : (params : List Value) (schema : Schema) (row k : List ℕ) (p : Predicate) (o : Option (List Value)) → all_fixed params schema.columns schema.key (conjuncts p) ≡ o → option_and_then (key_of_values schema) o ≡ Some k
    → truth params schema.columns (values_in schema row) p ≡ Holds → row_key schema row ≡ k
fixed_by_all params schema row k p None is h t = absurd (no_some k h)
fixed_by_all params schema row k p (Some ds) is h t =
    ap (row_bytes (key_columns schema)) (all_values params schema.columns (values_in schema row) schema.key (conjuncts p) ds (conjuncts_hold params schema.columns (values_in schema row) p t) is)
    ∙ of_values schema ds k h

-- a row of which the predicate is true has the key that the predicate fixes
pub fixed_is_key : (params : List Value) (schema : Schema) (row k : List ℕ) (p : Predicate) → fixed_key params schema p ≡ Some k → truth params schema.columns (values_in schema row) p ≡ Holds → row_key schema row ≡ k
unfolding fixed_key
fixed_is_key params schema row k p h t = fixed_by_all params schema row k p (all_fixed params schema.columns schema.key (conjuncts p)) refl h t

-- ---- of each kind of statement

filter_is_key : (params : List Value) (schema : Schema) (row k : List ℕ) (f : Option Predicate) → filter_key params schema f ≡ Some k → matches params schema.columns (values_in schema row) f ≡ true → row_key schema row ≡ k
filter_is_key params schema row k None h t = absurd (no_some k h)
filter_is_key params schema row k (Some p) h t = fixed_is_key params schema row k p h (it_holds (truth params schema.columns (values_in schema row) p) t)

one_of : (o : Option (List ℕ)) (k : List ℕ) → scope_by o ≡ One k → o ≡ Some k
one_of None k h = absurd cc
one_of (Some q) k h = cc

has_this_key : (schema : Schema) (row k : List ℕ) (o : Option (List ℕ)) → o ≡ Some k → has_key schema o row ≡ true → row_key schema row ≡ k
has_this_key schema row k None is h = absurd cc
has_this_key schema row k (Some q) is h = sym (sym (some_inside q k is) ∙ (bytes_eq-Decides q (row_key schema row)).0 h)

-- where a statement is bound to one key, each row that it is about has that key
pub about_one : (params : List Value) (c : Command) (schema : Schema) (row k : List ℕ) → scope_in params c schema ≡ One k → concerns params c schema row ≡ true → row_key schema row ≡ k
about_one params (command.Create table ds key) schema row k is h = absurd cc
about_one params (command.Insert table named values) schema row k is h = has_this_key schema row k (given_key schema named (map (literal_value params) values)) (one_of (given_key schema named (map (literal_value params) values)) k is) h
about_one params (command.Update table assignments f) schema row k is h = filter_is_key params schema row k f (one_of (filter_key params schema f) k is) h
about_one params (command.Delete table f) schema row k is h = filter_is_key params schema row k f (one_of (filter_key params schema f) k is) h
about_one params (command.Select named table f) schema row k is h = filter_is_key params schema row k f (one_of (filter_key params schema f) k is) h
