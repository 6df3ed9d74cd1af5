-- Texts, run by run between doubled quotes.
use Rattle.std.proofs.Common.{◌≡◌, ◌+◌, ◌<◌, ◌≤◌, ℕ, suc, Bool, true, false, not, cond, List, [], ◌∷◌, ◌++◌, Some, None, refl, sym, ap, ◌∙◌, take, drop, length, get_or, add-one, append_assoc, arith, position, take_all, take-add}
use Rattle.std.proofs.Math.Seq.{drop-cons}
use Rattle.std.proofs.lemmas.List.{append-nil, drop_all, length-drop}
use Rattle.std.proofs.lemmas.List.Quantifiers.{position-Some}
use Rattle.std.proofs.lemmas.List.Sums.{position_or_len_is}
use Rattle.std.proofs.lemmas.Bool.{ltb-false}
use Rattle.std.specs.List.{position_or_len}
use Rattle.std.specs.Prelude.{◌==◌, nat_lt}
use Rattle.sql_text.specs.Spelled.{undoubled}

abbrev is_quote : ℕ → Bool
is_quote b = b == 39

-- how many bytes stand before the first quote
abbrev before : List ℕ → ℕ
before xs = position_or_len is_quote xs

plain_first : (a : ℕ) (ys : List ℕ) → (a == 39) ≡ false → undoubled (a ∷ ys) ≡ a ∷ undoubled ys
plain_first a [] e = refl
plain_first a (b ∷ ys) e = rw e refl

quote_first : (a : ℕ) (ys : List ℕ) → (a == 39) ≡ true → undoubled (a ∷ ys) ≡ a ∷ undoubled (drop 1 ys)
quote_first a [] e = refl
quote_first a (b ∷ ys) e = rw e refl

step : (a : ℕ) (ys : List ℕ) (q : Bool) → (a == 39) ≡ q → undoubled ys ≡ take (before ys) ys ++ undoubled (drop (before ys) ys)
    → undoubled (a ∷ ys) ≡ take (before (a ∷ ys)) (a ∷ ys) ++ undoubled (drop (before (a ∷ ys)) (a ∷ ys))
step a ys true e rest =
    let n : before (a ∷ ys) ≡ 0 = ap (λ (t : Bool). cond (not t) (1 + before ys) 0) e in
    rw n refl
step a ys false e rest =
    let up : 1 + before ys ≡ suc (before ys) = omega arith in
    let n : before (a ∷ ys) ≡ suc (before ys) = ap (λ (t : Bool). cond (not t) (1 + before ys) 0) e ∙ up in
    rw n (plain_first a ys e ∙ ap (λ (l : List ℕ). a ∷ l) rest)

-- what stands before the first quote stands for itself
up_to : (xs : List ℕ) → undoubled xs ≡ take (before xs) xs ++ undoubled (drop (before xs) xs)
up_to [] = refl
up_to (a ∷ ys) = step a ys (a == 39) refl (up_to ys)

-- and then one quote for two
pub one_run : (xs : List ℕ) (i : ℕ) → position (λ b. b == 39) xs ≡ Some i → undoubled xs ≡ take (i + 1) xs ++ undoubled (drop 1 (drop (i + 1) xs))
one_run xs i e =
    let at = position-Some is_quote xs i 0 e in
    let below : i ≤ length xs = omega (arith, at.0) in
    let n : before xs ≡ i = position_or_len_is is_quote xs i 0 below at.2 (λ _. at.1) in
    let split : drop i xs ≡ get_or xs i 0 ∷ drop (i + 1) xs = rw (add-one, drop-cons xs i 0 at.0) refl in
    let run : take (i + 1) xs ≡ take i xs ++ get_or xs i 0 ∷ [] = take-add i 1 xs ∙ ap (λ (l : List ℕ). take i xs ++ take 1 l) split in
    let first : undoubled xs ≡ take i xs ++ undoubled (drop i xs) = up_to xs ∙ ap (λ (k : ℕ). take k xs ++ undoubled (drop k xs)) n in
    first
    ∙ ap (λ (l : List ℕ). take i xs ++ undoubled l) split
    ∙ ap (λ (l : List ℕ). take i xs ++ l) (quote_first (get_or xs i 0) (drop (i + 1) xs) at.1)
    ∙ sym (append_assoc (take i xs) (get_or xs i 0 ∷ []) (undoubled (drop 1 (drop (i + 1) xs))))
    ∙ ap (λ (l : List ℕ). l ++ undoubled (drop 1 (drop (i + 1) xs))) (sym run)

at_end : (xs : List ℕ) → length xs ≤ before xs → undoubled xs ≡ xs
at_end xs le =
    up_to xs
    ∙ ap (λ (l : List ℕ). take (before xs) xs ++ undoubled l) (drop_all (before xs) xs le)
    ∙ append-nil (take (before xs) xs)
    ∙ take_all (before xs) xs le

none_by : (xs : List ℕ) (b : Bool) → nat_lt (before xs) (length xs) ≡ b → cond b (Some (before xs)) None ≡ None → undoubled xs ≡ xs
none_by xs true is e = absurd cc
none_by xs false is e = let past = ltb-false (before xs) (length xs) is in at_end xs (omega (arith, past))

-- where no quote stands, all of it stands for itself
pub no_run : (xs : List ℕ) → position (λ b. b == 39) xs ≡ None → undoubled xs ≡ xs
no_run xs e = none_by xs (nat_lt (before xs) (length xs)) refl e

-- what stands behind a quote is shorter
pub shorter : (xs : List ℕ) (i : ℕ) → i < length xs → length (drop 1 (drop (i + 1) xs)) < length xs
shorter xs i below =
    let one = length-drop 1 (drop (i + 1) xs) in
    let rest = length-drop (i + 1) xs in
    omega (arith, below, one, rest)
