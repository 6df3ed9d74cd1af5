-- Items gathered one by one.
use Rattle.std.proofs.Common.{◌≡◌, ℕ, ◌+◌, ◌<◌, zero, suc, List, [], ◌∷◌, ◌++◌, refl, sym, ap, ◌∙◌, map, length, take, set, Some, arith, add-one}
use Rattle.std.specs.List.{slice_get}
use Rattle.row_values.proofs.ReadSteps.{take_at}

take_set_by : {A : Type 0} (xs : List A) (i : ℕ) (x : A) → i < length xs → take (suc i) (set xs i x) ≡ take i xs ++ x ∷ []
take_set_by [] i x lt = absurd (omega arith)
take_set_by (y ∷ ys) zero x lt = refl
take_set_by (y ∷ ys) (suc i) x lt = ap (λ l. y ∷ l) (take_set_by ys i x (omega arith))

take_set : {A : Type 0} (xs : List A) (i : ℕ) (x : A) → i < length xs → take (i + 1) (set xs i x) ≡ take i xs ++ x ∷ []
take_set xs i x lt = rw add-one (take_set_by xs i x lt)

map_push : {A B : Type 0} (f : A → B) (xs : List A) (x : A) → map f (xs ++ x ∷ []) ≡ map f xs ++ f x ∷ []
map_push f [] x = refl
map_push f (y ∷ ys) x = ap (λ l. f y ∷ l) (map_push f ys x)

-- one more item is in its place
pub gathered : {A B : Type 0} (f : A → B) (xs : List A) (ys : List B) (i : ℕ) (x : A) → i < length xs → slice_get ys i ≡ Some (f x) → map f (take i xs) ≡ take i ys → map f (take (i + 1) (set xs i x)) ≡ take (i + 1) ys
gathered f xs ys i x lt at so = ap (map f) (take_set xs i x lt) ∙ map_push f (take i xs) x ∙ ap (λ l. l ++ f x ∷ []) so ∙ sym (take_at ys i (f x) at)
