-- The first place at which a test passes.
use Rattle.std.proofs.Common.{◌≡◌, ◌+◌, Bool, List, [], ◌∷◌, map, not, cond, refl, ap}
use Rattle.std.proofs.lemmas.List.{length-map}
use Rattle.std.specs.List.{position, position_or_len}

first_map : {A B : Type 0} → (p : B → Bool) (f : A → B) (xs : List A) → position_or_len p (map f xs) ≡ position_or_len (λ x. p (f x)) xs
first_map p f [] = refl
first_map p f (x ∷ xs) = ap (λ n. cond (not (p (f x))) (1 + n) 0) (first_map p f xs)

pub position_map : {A B : Type 0} → (p : B → Bool) (f : A → B) (xs : List A) → position p (map f xs) ≡ position (λ x. p (f x)) xs
position_map p f xs = rw (first_map p f xs, length-map xs f) refl
