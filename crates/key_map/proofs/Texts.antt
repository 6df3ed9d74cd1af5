-- The order of texts is that of their forms.
use Rattle.std.proofs.Common.{◌≡◌, ℕ, zero, suc, List, [], ◌∷◌, ◌++◌, ◌<◌, refl, sym, ap, ◌∙◌, Ordering, Less, Equal, Greater, arith}
use Rattle.std.specs.Ordering.{nat_cmp, ordering_then}
use Rattle.std.specs.Cmp.Lexicographic.{slice_cmp}
use Rattle.std.specs.Cmp.{nat_cmp_is}
use Rattle.key_map.specs.SortForm.{text_form}

pub more : (o p q : Ordering) → ordering_then o (ordering_then p q) ≡ ordering_then (ordering_then o p) q
more Less p q = refl
more Equal p q = refl
more Greater p q = refl

zero_first : (y : ℕ) → nat_cmp 0 (suc y) ≡ Less
zero_first y = let lt : 0 < suc y = omega arith in sym (nat_cmp_is 0 (suc y) Less lt)

zero_last : (x : ℕ) → nat_cmp (suc x) 0 ≡ Greater
zero_last x = let lt : 0 < suc x = omega arith in sym (nat_cmp_is (suc x) 0 Greater lt)

lesser : (o p : Ordering) → o ≡ Less → ordering_then o p ≡ Less
lesser o p h = ap (λ r. ordering_then r p) h

greater : (o p : Ordering) → o ≡ Greater → ordering_then o p ≡ Greater
greater o p h = ap (λ r. ordering_then r p) h

-- the order of two forms is that of the texts, and where they are the same that of what follows
pub texts_keep_order : (xs ys r s : List ℕ) → slice_cmp nat_cmp (text_form xs ++ r) (text_form ys ++ s) ≡ ordering_then (slice_cmp nat_cmp xs ys) (slice_cmp nat_cmp r s)
texts_keep_order [] [] r s = refl
texts_keep_order [] (zero ∷ ys) r s = refl
texts_keep_order [] (suc y ∷ ys) r s = lesser _ _ (zero_first y)
texts_keep_order (zero ∷ xs) [] r s = refl
texts_keep_order (suc x ∷ xs) [] r s = greater _ _ (zero_last x)
texts_keep_order (zero ∷ xs) (zero ∷ ys) r s = texts_keep_order xs ys r s
texts_keep_order (zero ∷ xs) (suc y ∷ ys) r s = lesser _ _ (zero_first y) ∙ sym (ap (λ o. ordering_then o (slice_cmp nat_cmp r s)) (lesser _ _ (zero_first y)))
texts_keep_order (suc x ∷ xs) (zero ∷ ys) r s = greater _ _ (zero_last x) ∙ sym (ap (λ o. ordering_then o (slice_cmp nat_cmp r s)) (greater _ _ (zero_last x)))
texts_keep_order (suc x ∷ xs) (suc y ∷ ys) r s = ap (ordering_then (nat_cmp (suc x) (suc y))) (texts_keep_order xs ys r s) ∙ more (nat_cmp (suc x) (suc y)) (slice_cmp nat_cmp xs ys) (slice_cmp nat_cmp r s)
