-- Values of key columns, one after another.
use Rattle.std.proofs.Common.{◌≡◌, ◌<◌, ◌+◌, ℕ, List, [], ◌∷◌, ◌++◌, refl, sym, ap, ◌∙◌, Option, Some, None, option_map, append_assoc, length, drop, get_or, add-one}
use Rattle.std.proofs.Math.Seq.{drop-cons}
use Rattle.sql_text.specs.declared.tree.Predicate.{Predicate}
use Rattle.row_values.specs.Value.{Value}
use Rattle.row_values.specs.Column.{Column}
use Rattle.sql_semantics.specs.Scope.{all_fixed, cons_some, fixed}

module _ (params : List Value) (cs : List Column) where
  fixing_goes : (done : List Value) (v : Value) (o whole : Option (List Value)) → option_map (λ vs. done ++ vs) (cons_some params cs (Some v) o) ≡ whole → option_map (λ vs. (done ++ v ∷ []) ++ vs) o ≡ whole
  fixing_goes done v None whole h = h
  fixing_goes done v (Some vs) whole h = ap Some (append_assoc done (v ∷ []) vs) ∙ h

  -- one place more is fixed
  pub fixing_step : (parts : List Predicate) (places : List ℕ) (i place : ℕ) (done : List Value) (v : Value) (whole : Option (List Value)) → i < length places → place ≡ get_or places i 0 → fixed params cs place parts ≡ Some v
      → option_map (λ vs. done ++ vs) (all_fixed params cs (drop i places) parts) ≡ whole
      → option_map (λ vs. (done ++ v ∷ []) ++ vs) (all_fixed params cs (drop (i + 1) places) parts) ≡ whole
  fixing_step parts places i place done v whole lt at is h =
      let split : drop i places ≡ get_or places i 0 ∷ drop (i + 1) places = rw (add-one, drop-cons places i 0) refl in
      let rest : Option (List Value) = all_fixed params cs (drop (i + 1) places) parts in
      let opened : all_fixed params cs (drop i places) parts ≡ cons_some params cs (Some v) rest =
      ap (λ (l : List ℕ). all_fixed params cs l parts) split ∙ ap (λ (o : Option Value). cons_some params cs o rest) (ap (λ (n : ℕ). fixed params cs n parts) (sym at) ∙ is) in
      fixing_goes done v rest whole (sym (ap (λ (o : Option (List Value)). option_map (λ vs. done ++ vs) o) opened) ∙ h)
