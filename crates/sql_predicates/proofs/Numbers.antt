-- Numbers past BIGINT are none, whatever they are.
use Rattle.std.proofs.Common.{◌≡◌, ◌⊎◌, inl, inr, ℕ, zero, suc, ◌-◌, ◌<◌, ◌≤◌, ◌==◌, Bool, true, false, List, [], ◌∷◌, length, take, drop, get_or, min, pos, negsuc, arith, refl, sym, ap, ◌∙◌, if◌then◌else◌}
use Rattle.std.proofs.Math.IntN.{neg_ℤ}
use Rattle.std.proofs.Math.Dec.{leb}
use Rattle.std.proofs.lemmas.Bool.{eq-eqb, ne_eqb}
use Rattle.std.proofs.lemmas.Bool.Decides.{leb_tells}
use Rattle.std.proofs.lemmas.List.{take_rest}
use Rattle.row_values.specs.Value.{null, number}
use Rattle.sql_text.specs.Number.{number_of}
use Rattle.sql_text.specs.Spelled.{number_value}
use Rattle.sql_semantics.specs.Values.{number_given}

abbrev Told : ℕ → Type 0
Told k = ((leb k 9223372036854775807 ≡ true) × (k ≤ 9223372036854775807)) ⊎ ((leb k 9223372036854775807 ≡ false) × (9223372036854775807 < k))

past_positive_by : (k : ℕ) → 9223372036854775807 < k → Told k → number_given (pos k) ≡ null
unfolding number_given
past_positive_by k h (inl x) = let g : k ≤ 9223372036854775807 = x.1 in absurd (omega arith)
past_positive_by k h (inr x) = ap (λ (b : Bool). if b then number (pos k) else null) x.0

past_positive : (k : ℕ) → 9223372036854775807 < k → number_given (pos k) ≡ null
past_positive k h = past_positive_by k h (leb_tells k 9223372036854775807)

past_negative_by : (j : ℕ) → 9223372036854775807 < j → Told j → number_given (negsuc j) ≡ null
unfolding number_given
past_negative_by j h (inl x) = let g : j ≤ 9223372036854775807 = x.1 in absurd (omega arith)
past_negative_by j h (inr x) = ap (λ (b : Bool). if b then number (negsuc j) else null) x.0

past_negative : (k : ℕ) → 9223372036854775808 < k → number_given (neg_ℤ (pos k)) ≡ null
past_negative zero h = absurd (omega arith)
past_negative (suc j) h = let g : 9223372036854775807 < j = omega arith in past_negative_by j g (leb_tells j 9223372036854775807)

positive_by : (n r : ℕ) → r ≡ min n 9223372036854775809 → Told n → number_given (pos r) ≡ number_given (pos n)
positive_by n r m (inl x) = let g : n ≤ 9223372036854775807 = x.1 in let e : r ≡ n = omega arith in ap (λ k. number_given (pos k)) e
positive_by n r m (inr x) =
    let g : 9223372036854775807 < n = x.1 in
    let h : 9223372036854775807 < r = omega arith in
    past_positive r h ∙ sym (past_positive n g)

abbrev Tells : ℕ → Type 0
Tells n = ((leb n 9223372036854775808 ≡ true) × (n ≤ 9223372036854775808)) ⊎ ((leb n 9223372036854775808 ≡ false) × (9223372036854775808 < n))

negative_by : (n r : ℕ) → r ≡ min n 9223372036854775809 → Tells n → number_given (neg_ℤ (pos r)) ≡ number_given (neg_ℤ (pos n))
negative_by n r m (inl x) = let g : n ≤ 9223372036854775808 = x.1 in let e : r ≡ n = omega arith in ap (λ k. number_given (neg_ℤ (pos k))) e
negative_by n r m (inr x) =
    let g : 9223372036854775808 < n = x.1 in
    let h : 9223372036854775808 < r = omega arith in
    past_negative r h ∙ sym (past_negative n g)

pub none : (z : List ℕ) → length z < 1 → number (pos 0) ≡ number_given (number_value z)
unfolding number_given
none [] h = refl
none (b ∷ z) h = absurd (omega arith)

pub with_sign : (z : List ℕ) (r : ℕ) → 1 ≤ length z → get_or z 0 0 ≡ 45 → r ≡ min (number_of (take (length z - 1) (drop 1 z))) 9223372036854775809
    → number_given (neg_ℤ (pos r)) ≡ number_given (number_value z)
with_sign [] r h e m = absurd (omega arith)
with_sign (b ∷ z) r h e m =
    let rest : take (length (b ∷ z) - 1) z ≡ z = take_rest (b ∷ z) 1 in
    let same : r ≡ min (number_of z) 9223372036854775809 = m ∙ ap (λ (x : List ℕ). min (number_of x) 9223372036854775809) rest in
    let test : (b == 45) ≡ true = eq-eqb b 45 e in
    negative_by (number_of z) r same (leb_tells (number_of z) 9223372036854775808)
    ∙ sym (ap (λ (t : Bool). number_given (if t then neg_ℤ (pos (number_of z)) else pos (number_of (b ∷ z)))) test)

pub without_sign : (z : List ℕ) (r : ℕ) → 1 ≤ length z → (get_or z 0 0 ≡ 45 → ⊥) → r ≡ min (number_of z) 9223372036854775809 → number_given (pos r) ≡ number_given (number_value z)
without_sign [] r h e m = absurd (omega arith)
without_sign (b ∷ z) r h e m =
    let test : (b == 45) ≡ false = ne_eqb b 45 e in
    positive_by (number_of (b ∷ z)) r m (leb_tells (number_of (b ∷ z)) 9223372036854775807)
    ∙ sym (ap (λ (t : Bool). number_given (if t then neg_ℤ (pos (number_of z)) else pos (number_of (b ∷ z)))) test)
