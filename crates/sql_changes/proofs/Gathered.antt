-- Changes gathered row by row.
use Rattle.std.proofs.Common.{◌≡◌, ℕ, suc, ◌+◌, List, [], ◌∷◌, ◌++◌, take, map, Some, arith, refl, sym, ap, ◌∙◌}
use Rattle.std.proofs.lemmas.Option.{slice_get_within, get_or_from_slice_get}
use Rattle.std.proofs.Math.Seq.{take-suc}
use Rattle.std.specs.List.{slice_get}

take_at : {X : Type 0} (xs : List X) (i : ℕ) (x : X) → slice_get xs i ≡ Some x → take (i + 1) xs ≡ take i xs ++ x ∷ []
take_at xs i x at =
    let below = slice_get_within xs i x at in
    let one : i + 1 ≡ suc i = omega arith in
    ap (λ n. take n xs) one ∙ take-suc xs i x below ∙ ap (λ y. take i xs ++ y ∷ []) (get_or_from_slice_get xs i x x at)

map_push : {A B : Type 0} (f : A → B) (xs : List A) (x : A) → map f (xs ++ x ∷ []) ≡ map f xs ++ f x ∷ []
map_push f [] x = refl
map_push f (y ∷ ys) x = ap (λ l. f y ∷ l) (map_push f ys x)

pub gathered : {A B C : Type 0} (g : A → C) (f : B → C) (xs ys : List A) (rows : List B) (i : ℕ) (x : A) (row : B) → ys ≡ xs ++ x ∷ [] → g x ≡ f row → slice_get rows i ≡ Some row
    → map g xs ≡ map f (take i rows) → map g ys ≡ map f (take (i + 1) rows)
gathered g f xs ys rows i x row pushed same at so =
    ap (map g) pushed ∙ map_push g xs x ∙ ap (λ z. map g xs ++ z ∷ []) same ∙ ap (λ l. l ++ f row ∷ []) so
    ∙ sym (map_push f (take i rows) row) ∙ sym (ap (map f) (take_at rows i row at))
