-- The order of byte lists is strict.
use Rattle.std.proofs.Common.{◌≡◌, ℕ, true, false, List, refl, sym, ap, inl, inr, ◌⊎◌}
use Rattle.std.specs.Ordering.{nat_cmp, is_lt, ordering_reverse}
use Rattle.std.specs.declared.cmp.Ordering.{Ordering}
use Rattle.std.specs.declared.cmp.Ordering.TheVariants.{Less, Equal, Greater}
use Rattle.std.specs.Cmp.Lexicographic.{slice_cmp}
use Rattle.std.proofs.lemmas.Cmp.{nat_list_cmp_total}
use Rattle.std.proofs.lemmas.Map.Lookups.{exact_bytes}
use Rattle.drda_words.specs.Order.{precedes}

-- an ordering that is its own reverse
level : (r : Ordering) → r ≡ ordering_reverse r → is_lt r ≡ false
level Less e = absurd cc
level Equal e = refl
level Greater e = refl

less : (r : Ordering) → is_lt r ≡ true → r ≡ Less
less Less e = refl
less Equal e = absurd cc
less Greater e = absurd cc

pub never : (a : List ℕ) → precedes a a ≡ false
never a = level (slice_cmp nat_cmp a a) (nat_list_cmp_total.antisymm a a)

pub onward : (a b c : List ℕ) → precedes a b ≡ true → precedes b c ≡ true → precedes a c ≡ true
onward a b c first second =
    ap (λ (r : Ordering). is_lt r) (nat_list_cmp_total.trans a b c (less (slice_cmp nat_cmp a b) first) (less (slice_cmp nat_cmp b c) second))

by_order : (a b : List ℕ) (r s : Ordering) → r ≡ slice_cmp nat_cmp a b → s ≡ slice_cmp nat_cmp b a → r ≡ ordering_reverse s
    → (is_lt r ≡ true) ⊎ ((is_lt s ≡ true) ⊎ (a ≡ b))
by_order a b Less s e f turned = inl refl
by_order a b Equal s e f turned = inr (inr (exact_bytes a b (sym e)))
by_order a b Greater Less e f turned = inr (inl refl)
by_order a b Greater Equal e f turned = absurd cc
by_order a b Greater Greater e f turned = absurd cc

pub compared : (a b : List ℕ) → (precedes a b ≡ true) ⊎ ((precedes b a ≡ true) ⊎ (a ≡ b))
compared a b = by_order a b (slice_cmp nat_cmp a b) (slice_cmp nat_cmp b a) refl refl (nat_list_cmp_total.antisymm a b)
