-- A search for the first item whose name is one of an earlier item, at one place.
use Rattle.std.proofs.Common.{◌≡◌, ℕ, ◌+◌, ◌<◌, Bool, true, false, cond, List, [], ◌∷◌, ◌++◌, length, take, drop, get_or, Option, Some, refl, sym, ap, ◌∙◌, add-one}
use Rattle.std.proofs.Math.Seq.{drop-cons, take-suc}
use Rattle.std.specs.List.{list_any}
use Rattle.sql_text.specs.Checks.{same_name, first_repeat}

module _ {A : Type 0} (name : A → List ℕ) (left : A → ℕ) (z : List A) (at : ℕ) (x : A) (below : at < length z) (is : x ≡ get_or z at x) where
  here : drop at z ≡ x ∷ drop (at + 1) z
  here = let e : drop at z ≡ get_or z at x ∷ drop (at + 1) z = rw (add-one, drop-cons z at x) refl in e ∙ ap (λ y. y ∷ drop (at + 1) z) (sym is)

  before : take (at + 1) z ≡ take at z ++ x ∷ []
  before = let e : take (at + 1) z ≡ take at z ++ get_or z at x ∷ [] = rw (add-one, take-suc z at x) refl in e ∙ ap (λ y. take at z ++ y ∷ []) (sym is)

  tested : Bool → Option ℕ
  tested b = cond b (Some (left x)) (first_repeat name left (take at z ++ x ∷ []) (drop (at + 1) z))

  opened : first_repeat name left (take at z) (drop at z) ≡ tested (list_any (λ y. same_name (name y) (name x)) (take at z))
  unfolding tested
  opened = ap (λ u. first_repeat name left (take at z) u) here

  pub repeats : list_any (λ y. same_name (name y) (name x)) (take at z) ≡ true → Some (left x) ≡ first_repeat name left (take at z) (drop at z)
  unfolding tested
  repeats e = sym (opened ∙ ap tested e)

  pub goes_on : list_any (λ y. same_name (name y) (name x)) (take at z) ≡ false → first_repeat name left (take (at + 1) z) (drop (at + 1) z) ≡ first_repeat name left (take at z) (drop at z)
  unfolding tested
  goes_on e = ap (λ u. first_repeat name left u (drop (at + 1) z)) before ∙ sym (opened ∙ ap tested e)
