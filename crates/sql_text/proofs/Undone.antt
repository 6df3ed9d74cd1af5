-- What the parts of a statement stand for.
use Rattle.std.proofs.Common.{◌≡◌, ◌↔◌, inl, inr, ℕ, zero, suc, ◌+◌, ◌*◌, ◌/◌, ◌%◌, ◌^◌, ◌≤◌, ◌<◌, Bool, true, false, cond, ◌&&◌, List, [], ◌∷◌, length, refl, sym, ap, ◌∙◌, subst, arith, rules}
use Rattle.std.specs.Prelude.{FitsSigned, ◌==◌, ℤ, pos, neg_ℤ}
use Rattle.std.specs.Char.{is_ascii_digit, is_ascii_hexdigit, to_ascii_uppercase}
use Rattle.std.specs.Fmt.{decimal, signed_decimal}
use Rattle.std.specs.Int.{w64, IsInRange}
use Rattle.std.specs.List.{All, list_all}
use Rattle.std.proofs.lemmas.Bool.Decides.{nat_tests}
use Rattle.std.proofs.lemmas.Fmt.{decimal-digits_value}
use Rattle.std.proofs.lemmas.List.Elements.{All-cons, All-nil}
use Rattle.std.proofs.lemmas.Str.Ascii.{uppercase-uppercase}
use Rattle.std.proofs.lemmas.Str.Parse.{IsDigitsTest, FoldsDigits, IsNumeralModel, numerals_by_fold}
use Rattle.sql_lex.specs.Spelling.{AreDigits, doubled}
use Rattle.sql_lex.proofs.Spelled.{same_number}
use Rattle.sql_text.specs.Checks.{same_name}
use Rattle.sql_text.specs.Number.{number_behind, number_of}
use Rattle.sql_text.specs.Spelled.{capitals, number_value, IsPlain, undoubled, digit_value, bytes_of_pairs, hexadecimal_digit, pairs_of}
use Rattle.sql_text.specs.Valid.{IsBigInt}
use Rattle.sql_text.proofs.Names.{same_capitals, same_from_capitals}

-- ---- names

pub capitals_once : (a : List ℕ) → capitals (capitals a) ≡ capitals a
capitals_once [] = refl
capitals_once (b ∷ z) = let e = capitals_once z in rw (uppercase-uppercase b, e) refl

pub same_names : (a b : List ℕ) → (same_name a b ≡ true) ↔ (capitals a ≡ capitals b)
same_names a b = (same_capitals a b, same_from_capitals a b)

-- ---- quotes

no_quote : (b : ℕ) (z : List ℕ) → (b == 39) ≡ false → undoubled (b ∷ z) ≡ b ∷ undoubled z
no_quote b [] e = refl
no_quote b (c ∷ z) e = rw e refl

undone_by : (b : ℕ) (z : List ℕ) (v : Bool) → (b == 39) ≡ v → undoubled (doubled z) ≡ z → undoubled (cond v (39 ∷ 39 ∷ doubled z) (b ∷ doubled z)) ≡ b ∷ z
undone_by b z true e ih = let quote : 39 ≡ b = sym (same_number b 39 e) in ap (λ u. 39 ∷ u) ih ∙ ap (λ q. q ∷ z) quote
undone_by b z false e ih = no_quote b (doubled z) e ∙ ap (λ u. b ∷ u) ih

pub undone : (z : List ℕ) → undoubled (doubled z) ≡ z
undone [] = refl
undone (b ∷ z) = undone_by b z (b == 39) refl (undone z)

-- ---- pairs of digits

both : (a b : Bool) → (a && b) ≡ true → (a ≡ true) × (b ≡ true)
both true b e = (refl, e)
both false b e = absurd (cc)

digit_small : (b : ℕ) → is_ascii_hexdigit b ≡ true → digit_value b < 16
digit_small b e = grind (arith, nat_tests)

digit_back : (b : ℕ) → is_ascii_hexdigit b ≡ true → hexadecimal_digit (digit_value b) ≡ to_ascii_uppercase b
digit_back b e = grind (arith, nat_tests)

high_digit : (x y : ℕ) → y < 16 → (x * 16 + y) / 16 ≡ x
high_digit x y small = omega arith

low_digit : (x y : ℕ) → y < 16 → (x * 16 + y) % 16 ≡ y
low_digit x y small = omega arith

odd : (z : List ℕ) → (length (0 ∷ 0 ∷ z)) % 2 ≡ 0 → length z % 2 ≡ 0
odd z e = omega arith

pub bytes_small : (z : List ℕ) → length z % 2 ≡ 0 → list_all is_ascii_hexdigit z ≡ true → All (λ b. b < 256) (bytes_of_pairs z)
bytes_small [] even e = All-nil _
bytes_small (a ∷ []) even e = All-nil _
bytes_small (a ∷ b ∷ z) even e =
    let one = both (is_ascii_hexdigit a) (list_all is_ascii_hexdigit (b ∷ z)) e in
    let two = both (is_ascii_hexdigit b) (list_all is_ascii_hexdigit z) one.1 in
    let left : length z % 2 ≡ 0 = omega arith in
    All-cons (λ n. n < 256) (digit_value a * 16 + digit_value b) (bytes_of_pairs z) (omega (arith, digit_small a one.0, digit_small b two.0)) (bytes_small z left two.1)

pub pairs_back : (z : List ℕ) → length z % 2 ≡ 0 → list_all is_ascii_hexdigit z ≡ true → pairs_of (bytes_of_pairs z) ≡ capitals z
pairs_back [] even e = refl
pairs_back (a ∷ []) even e = absurd (omega arith)
pairs_back (a ∷ b ∷ z) even e =
    let one = both (is_ascii_hexdigit a) (list_all is_ascii_hexdigit (b ∷ z)) e in
    let two = both (is_ascii_hexdigit b) (list_all is_ascii_hexdigit z) one.1 in
    let left : length z % 2 ≡ 0 = omega arith in
    let high = ap hexadecimal_digit (high_digit (digit_value a) (digit_value b) (digit_small b two.0)) ∙ digit_back a one.0 in
    let low = ap hexadecimal_digit (low_digit (digit_value a) (digit_value b) (digit_small b two.0)) ∙ digit_back b two.0 in
    ap (λ u. hexadecimal_digit ((digit_value a * 16 + digit_value b) / 16) ∷ hexadecimal_digit ((digit_value a * 16 + digit_value b) % 16) ∷ u) (pairs_back z left two.1)
    ∙ ap (λ h. h ∷ hexadecimal_digit ((digit_value a * 16 + digit_value b) % 16) ∷ capitals z) high ∙ ap (λ l. to_ascii_uppercase a ∷ l ∷ capitals z) low

-- ---- numbers

pub zero_before : (z : List ℕ) → number_of (48 ∷ z) ≡ number_of z
unfolding number_of
zero_before z = refl

digits_told : IsDigitsTest (λ z. list_all is_ascii_digit z ≡ true)
digits_told = record {
  empty = refl;
  parts = λ c cs e. let k = both (is_ascii_digit c) (list_all is_ascii_digit cs) e in (in_range c k.0, k.1);
  more = λ c cs k e. kept c cs k e;
}
  where
    in_range : (c : ℕ) → is_ascii_digit c ≡ true → IsInRange 48 57 c
    in_range c e = (grind (arith, nat_tests), grind (arith, nat_tests))

    is_digit : (c : ℕ) → IsInRange 48 57 c → is_ascii_digit c ≡ true
    is_digit c (low, high) = grind (arith, nat_tests)

    kept : (c : ℕ) (cs : List ℕ) → IsInRange 48 57 c → list_all is_ascii_digit cs ≡ true → list_all is_ascii_digit (c ∷ cs) ≡ true
    kept c cs k e = let d = is_digit c k in rw (d, e) refl

folds : FoldsDigits number_behind
folds = record { empty = λ n. refl; more = λ n c cs k. refl }

numeral : IsNumeralModel (λ z. list_all is_ascii_digit z ≡ true) (number_behind 0)
numeral = numerals_by_fold (λ z. list_all is_ascii_digit z ≡ true) digits_told number_behind folds

decimal_back : (z : List ℕ) → IsPlain z → number_of z < 2 ^ 64 → decimal (number_of z) ≡ z
unfolding number_of
decimal_back z (digits, plain) small = decimal-digits_value numeral z digits.1 digits.0 plain small

not_minus : (b : ℕ) (z : List ℕ) → list_all is_ascii_digit (b ∷ z) ≡ true → (b == 45) ≡ false
not_minus b z e = let d = both (is_ascii_digit b) (list_all is_ascii_digit z) e in differs b d.0
  where
    differs : (b : ℕ) → is_ascii_digit b ≡ true → (b == 45) ≡ false
    differs b e = grind (arith, nat_tests)

pub digits_value : (z : List ℕ) → AreDigits z → number_value z ≡ pos (number_of z)
digits_value [] digits = absurd (omega arith)
digits_value (b ∷ z) digits = let e = not_minus b z digits.1 in rw e refl

pub written_back : (z : List ℕ) → IsPlain z → number_of z < 2 ^ 64 → signed_decimal (number_value z) ≡ z
written_back z plain small = ap signed_decimal (digits_value z plain.0) ∙ decimal_back z plain small

negative_decimal : (n : ℕ) → 0 < n → signed_decimal (neg_ℤ (pos n)) ≡ 45 ∷ decimal n
negative_decimal zero some = absurd (omega arith)
negative_decimal (suc n) some = refl

pub negative_back : (z : List ℕ) → IsPlain z → 0 < number_of z → number_of z < 2 ^ 64 → signed_decimal (number_value (45 ∷ z)) ≡ 45 ∷ z
negative_back z plain some small = negative_decimal (number_of z) some ∙ ap (λ u. 45 ∷ u) (decimal_back z plain small)

positive_fits : (n : ℕ) → n < 2 ^ 63 → FitsSigned w64 (pos n)
positive_fits n small = search rules

negative_fits : (n : ℕ) → n ≤ 2 ^ 63 → FitsSigned w64 (neg_ℤ (pos n))
negative_fits zero small = positive_fits 0 (omega arith)
negative_fits (suc n) small = search rules

pub lies_in_bigint : (z : List ℕ) → IsBigInt z → FitsSigned w64 (number_value z)
lies_in_bigint z (inl (digits, small)) = let P : ℤ → Type 0 = λ k. FitsSigned w64 k in subst P (sym (digits_value z digits)) (positive_fits (number_of z) small)
lies_in_bigint z (inr (digits, same, are, small)) =
    let P : List ℕ → Type 0 = λ u. FitsSigned w64 (number_value u) in
    subst P (sym same) (negative_fits (number_of digits) small)
