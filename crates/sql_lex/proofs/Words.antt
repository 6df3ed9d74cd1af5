-- A word is found among those of its length.
use Rattle.std.proofs.Common.{◌≡◌, ℕ, Bool, true, false, cond, List, [], ◌∷◌, length, map, Some, filter, find, refl, sym, ap, ◌∙◌, arith}
use Rattle.std.specs.Prelude.{◌==◌}
use Rattle.std.specs.Char.{to_ascii_lowercase}
use Rattle.std.specs.Cmp.Lexicographic.{same_text}
use Rattle.std.proofs.lemmas.Bool.Decides.{nat_tests}
use Rattle.std.proofs.lemmas.List.{length-map}
use Rattle.sql_lex.specs.Terminal.{spelling}
use Rattle.sql_lex.specs.Tokens.{is_spelled}
use Rattle.sql_lex.specs.declared.terminal.Terminal.{Terminal}

module _ {X : Type 0} (p q : X → Bool) (only : (x : X) → p x ≡ true → q x ≡ true) where
  kept_by : (x : X) (xs : List X) (u v : Bool) → p x ≡ u → q x ≡ v → find p (filter q xs) ≡ find p xs → find p (cond v (x ∷ filter q xs) (filter q xs)) ≡ cond u (Some x) (find p xs)
  kept_by x xs true true e f ih = rw e refl
  kept_by x xs false true e f ih = rw e ih
  kept_by x xs true false e f ih = let h = only x e in absurd (cc)
  kept_by x xs false false e f ih = ih

  pub find-filter : (xs : List X) → find p (filter q xs) ≡ find p xs
  find-filter [] = refl
  find-filter (x ∷ xs) = kept_by x xs (p x) (q x) refl refl (find-filter xs)

spelled_length : (y : List ℕ) (v : Terminal) → is_spelled y v ≡ true → (length (spelling v) == length y) ≡ true
spelled_length y v e =
    let low : map to_ascii_lowercase y ≡ map to_ascii_lowercase (spelling v) = same_text _ _ (sym e) in
    let same : length y ≡ length (spelling v) = sym (length-map y to_ascii_lowercase) ∙ ap length low ∙ length-map (spelling v) to_ascii_lowercase in
    grind (arith, nat_tests)

pub found_by_length : (y : List ℕ) (words : List Terminal) → find (is_spelled y) (filter (λ v. length (spelling v) == length y) words) ≡ find (is_spelled y) words
found_by_length y words = find-filter (is_spelled y) (λ v. length (spelling v) == length y) (spelled_length y) words
