-- The order of byte lists: lemmas for the crates above.
use Rattle.std.proofs.Common.{◌≡◌, ℕ, true, false, List, refl, sym, ap, subst, ◌∙◌}
use Rattle.std.specs.Ordering.{nat_cmp, is_lt, is_eq, ordering_reverse}
use Rattle.std.specs.declared.cmp.Ordering.{Ordering}
use Rattle.std.specs.declared.cmp.Ordering.TheVariants.{Less, Equal, Greater}
use Rattle.std.specs.Cmp.Lexicographic.{slice_cmp}
use Rattle.std.specs.Str.{bytes_eq}
use Rattle.std.proofs.lemmas.Cmp.{nat_list_cmp_total}
use Rattle.std.proofs.lemmas.Map.Lookups.{exact_bytes}
use Rattle.std.proofs.lemmas.Slice.Eq.{bytes_eq-Decides}
use Rattle.std.proofs.lemmas.Map.Text.{is_eq-slice_cmp}
use Rattle.drda_words.specs.Order.{precedes}

less_of : (r : Ordering) → is_lt r ≡ true → r ≡ Less
less_of Less e = refl
less_of Equal e = absurd cc
less_of Greater e = absurd cc

-- the comparison that a test of order comes from
pub precedes-Less : (a b : List ℕ) → precedes a b ≡ true → slice_cmp nat_cmp a b ≡ Less
precedes-Less a b e = less_of (slice_cmp nat_cmp a b) e

pub precedes-trans : (a b c : List ℕ) → precedes a b ≡ true → precedes b c ≡ true → precedes a c ≡ true
precedes-trans a b c p q = ap (λ (r : Ordering). is_lt r) (nat_list_cmp_total.trans a b c (precedes-Less a b p) (precedes-Less b c q))

-- turned round
pub cmp_turned : (a b : List ℕ) → slice_cmp nat_cmp a b ≡ ordering_reverse (slice_cmp nat_cmp b a)
cmp_turned a b = nat_list_cmp_total.antisymm a b

pub precedes_one_way : (a b : List ℕ) → precedes a b ≡ true → precedes b a ≡ false
precedes_one_way a b p =
    let turned : slice_cmp nat_cmp b a ≡ Greater = cmp_turned b a ∙ ap (λ (r : Ordering). ordering_reverse r) (precedes-Less a b p) in
    ap (λ (r : Ordering). is_lt r) turned

pub precedes_from_Greater : (a b : List ℕ) → slice_cmp nat_cmp a b ≡ Greater → precedes b a ≡ true
precedes_from_Greater a b e =
    let turned : slice_cmp nat_cmp b a ≡ Less = cmp_turned b a ∙ ap (λ (r : Ordering). ordering_reverse r) e in
    ap (λ (r : Ordering). is_lt r) turned

-- one that comes before another is another
pub precedes_other : (a b : List ℕ) → precedes a b ≡ true → bytes_eq a b ≡ false
precedes_other a b p = sym (is_eq-slice_cmp a b) ∙ ap (λ (r : Ordering). is_eq r) (precedes-Less a b p)

pub precedes_another : (a b : List ℕ) → precedes a b ≡ true → bytes_eq b a ≡ false
precedes_another a b p =
    let turned : slice_cmp nat_cmp b a ≡ Greater = cmp_turned b a ∙ ap (λ (r : Ordering). ordering_reverse r) (precedes-Less a b p) in
    sym (is_eq-slice_cmp b a) ∙ ap (λ (r : Ordering). is_eq r) turned

pub bytes_eq-refl : (a : List ℕ) → bytes_eq a a ≡ true
bytes_eq-refl a = sym (is_eq-slice_cmp a a) ∙ self (slice_cmp nat_cmp a a) (cmp_turned a a)
  where
    self : (r : Ordering) → r ≡ ordering_reverse r → is_eq r ≡ true
    self Less e = absurd cc
    self Equal e = refl
    self Greater e = absurd cc

-- of two that differ and are not in order, the other comes first
pub precedes_or : (a b : List ℕ) → precedes a b ≡ false → bytes_eq b a ≡ false → precedes b a ≡ true
precedes_or a b p e = by_case (slice_cmp nat_cmp a b) refl
  where
    by_case : (r : Ordering) → slice_cmp nat_cmp a b ≡ r → precedes b a ≡ true
    by_case Less f = let t : precedes a b ≡ true = ap (λ (r : Ordering). is_lt r) f in absurd cc
    by_case Equal f =
        let same : a ≡ b = exact_bytes a b f in
        let t : bytes_eq b a ≡ true = subst (λ (x : List ℕ). bytes_eq b x ≡ true) (sym same) (bytes_eq-refl b) in
        absurd cc
    by_case Greater f = precedes_from_Greater a b f

-- bytes that are found equal are so
pub same_bytes : (a b : List ℕ) → bytes_eq a b ≡ true → a ≡ b
same_bytes a b e = (bytes_eq-Decides a b).0 e
