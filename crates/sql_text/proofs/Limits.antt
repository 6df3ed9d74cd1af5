-- Numbers under a limit.
use Rattle.std.proofs.Common.{◌≡◌, ℕ, suc, zero, ◌+◌, ◌-◌, ◌*◌, ◌≤◌, ◌<◌, List, [], ◌∷◌, length, drop, get_or, min, sym, ap, ◌∙◌, arith, refl, add-one, lit≤}
use Rattle.std.specs.Prelude.{◌^◌}
use Rattle.drda_words.specs.Bytes.{AreBytes}
use Rattle.std.proofs.Math.Seq.{drop-cons}
use Rattle.sql_text.specs.Number.{number_behind, number_of}

-- digits that begin at the limit end there too
behind_limit : (limit n m : ℕ) (digits : List ℕ) → min n limit ≡ min m limit → min (number_behind n digits) limit ≡ min (number_behind m digits) limit
behind_limit limit n m [] e = e
behind_limit limit n m (d ∷ digits) e =
    let next : min (n * 10 + (d - 48)) limit ≡ min (m * 10 + (d - 48)) limit = omega arith in
    behind_limit limit (n * 10 + (d - 48)) (m * 10 + (d - 48)) digits next

pub goes_on : (limit n m i : ℕ) (z : List ℕ) → i < length z → min m limit ≡ min (n * 10 + (get_or z i 0 - 48)) limit
    → min (number_behind m (drop (i + 1) z)) limit ≡ min (number_behind n (drop i z)) limit
goes_on limit n m i z below e =
    let split : drop i z ≡ get_or z i 0 ∷ drop (i + 1) z = rw (add-one, drop-cons z i 0) refl in
    behind_limit limit m (n * 10 + (get_or z i 0 - 48)) (drop (i + 1) z) e
    ∙ sym (ap (λ (digits : List ℕ). min (number_behind n digits) limit) split)

none_left : (i : ℕ) (z : List ℕ) → length z ≤ i → drop i z ≡ []
none_left zero [] h = refl
none_left (suc i) [] h = refl
none_left zero (b ∷ z) h = absurd (omega arith)
none_left (suc i) (b ∷ z) h = let less : length z ≤ i = omega arith in none_left i z less

pub ended : (limit n i : ℕ) (z : List ℕ) → length z ≤ i → n ≤ limit → min (number_behind n (drop i z)) limit ≡ n
ended limit n i z past small = rw (none_left i z past) (omega arith)

-- ---- few digits

-- the most that so many bytes write as digits behind others that write n
abbrev most : ℕ → ℕ → ℕ
most zero n = n
most (suc k) n = most k (n * 10 + 207)

at_most : (k m n : ℕ) (z : List ℕ) → AreBytes z → length z ≤ k → m ≤ n → number_behind m z ≤ most k n
at_most zero m n [] bytes short small = small
at_most zero m n (d ∷ z) bytes short small = absurd (omega arith)
at_most (suc k) m n [] bytes short small = at_most k m (n * 10 + 207) [] bytes (omega arith) (omega arith)
at_most (suc k) m n (d ∷ z) bytes short small =
    let byte : d < 256 = bytes 0 in
    let less : m * 10 + (d - 48) ≤ n * 10 + 207 = omega arith in
    at_most k (m * 10 + (d - 48)) (n * 10 + 207) z (λ i. bytes (suc i)) (omega arith) less

-- 17 digits write a number of BIGINT
pub few : (z : List ℕ) → AreBytes z → length z ≤ 17 → number_of z < 2 ^ 63
unfolding number_of
few z bytes short = omega (arith, at_most 17 0 0 z bytes short (lit≤ tt))
