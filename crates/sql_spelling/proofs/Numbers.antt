-- Numbers are written in digits.
use Rattle.std.proofs.Common.{◌≡◌, inl, inr, ℕ, suc, ◌^◌, ◌≤◌, ◌<◌, Bool, true, false, ◌&&◌, List, ◌∷◌, ◌++◌, length, min, refl, ap, ◌∙◌, arith}
use Rattle.std.specs.Prelude.{ℤ, pos, negsuc, neg_ℤ, nat_le, nat_lt}
use Rattle.std.specs.Char.{is_ascii_digit}
use Rattle.std.specs.Fmt.{decimal, signed_decimal}
use Rattle.std.specs.Int.{IsInRange}
use Rattle.std.specs.List.{list_all}
use Rattle.std.proofs.lemmas.Bool.Decides.{nat_tests}
use Rattle.std.proofs.lemmas.Fmt.{decimal_nonempty, digits_decimal, digits_value-decimal}
use Rattle.std.proofs.lemmas.Str.Parse.{IsDigitsTest, FoldsDigits, IsNumeralModel, numerals_by_fold}
use Rattle.sql_lex.specs.Markers.{markers_in}
use Rattle.sql_text.specs.Grammar.{IsNumber, IsLength}
use Rattle.sql_text.specs.Number.{number_behind, number_of, is_bigint, is_negative_bigint, length_of}
use Rattle.sql_text.specs.Spelled.{number_value}
use Rattle.sql_text.proofs.Undone.{digits_value}
use Rattle.sql_spelling.proofs.Cutting.{lexed, digits_cut, minus_cut}
use Rattle.sql_spelling.proofs.Writing.{Writes}

both : (a b : Bool) → (a && b) ≡ true → (a ≡ true) × (b ≡ true)
both true b e = (refl, e)
both false b e = absurd (cc)

digits_told : IsDigitsTest (λ z. list_all is_ascii_digit z ≡ true)
digits_told = record {
  empty = refl;
  parts = λ c cs e. let k = both (is_ascii_digit c) (list_all is_ascii_digit cs) e in (in_range c k.0, k.1);
  more = λ c cs k e. kept c cs k e;
}
  where
    in_range : (c : ℕ) → is_ascii_digit c ≡ true → IsInRange 48 57 c
    in_range c e = (grind (arith, nat_tests), grind (arith, nat_tests))

    is_digit : (c : ℕ) → IsInRange 48 57 c → is_ascii_digit c ≡ true
    is_digit c (low, high) = grind (arith, nat_tests)

    kept : (c : ℕ) (cs : List ℕ) → IsInRange 48 57 c → list_all is_ascii_digit cs ≡ true → list_all is_ascii_digit (c ∷ cs) ≡ true
    kept c cs k e = let d = is_digit c k in rw (d, e) refl

folds : FoldsDigits number_behind
folds = record { empty = λ n. refl; more = λ n c cs k. refl }

numeral : IsNumeralModel (λ z. list_all is_ascii_digit z ≡ true) (number_behind 0)
numeral = numerals_by_fold (λ z. list_all is_ascii_digit z ≡ true) digits_told number_behind folds

pub are_digits : (n : ℕ) → n < 2 ^ 64 → list_all is_ascii_digit (decimal n) ≡ true
are_digits n small = digits_decimal numeral n small

pub decimal_value : (n : ℕ) → n < 2 ^ 64 → number_of (decimal n) ≡ n
unfolding number_of
decimal_value n small = digits_value-decimal numeral n small

-- ---- a length

pub length_written : (n : ℕ) → n ≤ 2000 → Writes (λ ts rest. (left : ℕ) × IsLength n left ts rest) (decimal n)
unfolding length_of
length_written n small =
    let fits : n < 2 ^ 64 = omega arith in
    let same : n ≡ min (number_of (decimal n)) 2001 = rw (decimal_value n fits) (omega arith) in
    record {
      reads = λ rest e. (_, (decimal n, digits_cut (decimal n) rest (decimal_nonempty n fits) (are_digits n fits) e, same));
      marks = λ rest e. ap markers_in (digits_cut (decimal n) rest (decimal_nonempty n fits) (are_digits n fits) e);
    }

-- ---- a number of BIGINT

abbrev pub InBigInt : ℤ → Type 0
InBigInt (pos n) = n < 2 ^ 63
InBigInt (negsuc n) = n < 2 ^ 63

bigint : (n : ℕ) → n < 2 ^ 63 → is_bigint (decimal n) ≡ true
unfolding is_bigint
bigint n small = let fits : n < 2 ^ 64 = omega arith in rw (decimal_value n fits) (less n (2 ^ 63) small)
  where
    less : (n m : ℕ) → n < m → nat_lt n m ≡ true
    less n m h = grind (arith, nat_tests)

negative_bigint : (n : ℕ) → n < 2 ^ 63 → is_negative_bigint (45 ∷ decimal (suc n)) ≡ true
unfolding is_negative_bigint
negative_bigint n small = let fits : suc n < 2 ^ 64 = omega arith in rw (decimal_value (suc n) fits) (least (suc n) (2 ^ 63) (omega arith))
  where
    least : (n m : ℕ) → n ≤ m → nat_le n m ≡ true
    least n m h = grind (arith, nat_tests)

pub number_written : (z : ℤ) → InBigInt z → Writes (IsNumber (signed_decimal z)) (signed_decimal z)
number_written (pos n) small =
    let fits : n < 2 ^ 64 = omega arith in
    record {
      reads = λ rest e. inl ((_, digits_cut (decimal n) rest (decimal_nonempty n fits) (are_digits n fits) e), bigint n small);
      marks = λ rest e. ap markers_in (digits_cut (decimal n) rest (decimal_nonempty n fits) (are_digits n fits) e);
    }
number_written (negsuc n) small =
    let fits : suc n < 2 ^ 64 = omega arith in
    let some = decimal_nonempty (suc n) fits in
    let all = are_digits (suc n) fits in
    record {
      reads = λ rest e. inr (decimal (suc n), (lexed (decimal (suc n) ++ rest), (_, minus_cut (decimal (suc n)) rest some all e), (_, digits_cut (decimal (suc n)) rest some all e)), negative_bigint n small);
      marks = λ rest e. ap markers_in (minus_cut (decimal (suc n)) rest some all e) ∙ ap markers_in (digits_cut (decimal (suc n)) rest some all e);
    }

-- and they stand for the number again
pub number_again : (z : ℤ) → InBigInt z → number_value (signed_decimal z) ≡ z
number_again (pos n) small =
    let fits : n < 2 ^ 64 = omega arith in
    let some : 1 ≤ length (decimal n) = omega (arith, decimal_nonempty n fits) in
    digits_value (decimal n) (some, are_digits n fits) ∙ ap pos (decimal_value n fits)
number_again (negsuc n) small =
    let fits : suc n < 2 ^ 64 = omega arith in
    ap (λ k. neg_ℤ (pos k)) (decimal_value (suc n) fits)
