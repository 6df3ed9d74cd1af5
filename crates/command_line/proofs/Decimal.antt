-- A text is read as a number exactly where it is one.
use Rattle.std.proofs.Common.{◌≡◌, ◌∙◌, ℕ, ◌^◌, ◌<◌, Bool, true, false, ◌&&◌, List, [], ◌∷◌, Some, None, refl, sym, ap, arith, get_or, ◌++◌, if◌then◌else◌}
use Rattle.std.proofs.lemmas.Str.Parse.{without_leading_plus_none}
use Rattle.std.specs.Prelude.{nat_lt}
use Rattle.std.specs.Char.{digit_value}
use Rattle.std.specs.Str.Parse.{AllDigits, IsNumeral, digits_value, without_leading_plus}
use Rattle.std.proofs.lemmas.Bool.Decides.{nat_tests}
use Rattle.command_line.specs.Number.{are_digits, is_numeral, number_in}

below : (n limit : ℕ) → n < limit → nat_lt n limit ≡ true
below n limit less = grind (arith, nat_tests)

is_below : (n limit : ℕ) → nat_lt n limit ≡ true → n < limit
is_below n limit h = grind (arith, nat_tests)

pub all_digits : (ds : List ℕ) → AllDigits 10 ds → are_digits ds ≡ true
all_digits [] all = refl
all_digits (d ∷ ds) all = ap (λ (b : Bool). b && are_digits ds) (below (digit_value d) 10 all.0) ∙ all_digits ds all.1

both : (a b : Bool) → (a && b) ≡ true → (a ≡ true) × (b ≡ true)
both true b h = (refl, h)
both false b h = absurd cc

pub digits_all : (ds : List ℕ) → are_digits ds ≡ true → AllDigits 10 ds
digits_all [] h = tt
digits_all (d ∷ ds) h = let two = both (nat_lt (digit_value d) 10) (are_digits ds) h in (is_below (digit_value d) 10 two.0, digits_all ds two.1)

numeral : (ds : List ℕ) → IsNumeral 10 ds → is_numeral ds ≡ true
numeral [] is = absurd (omega (arith, is.0))
numeral (d ∷ ds) is = all_digits (d ∷ ds) is.1

is_one : (ds : List ℕ) → is_numeral ds ≡ true → IsNumeral 10 ds
is_one [] h = absurd cc
is_one (d ∷ ds) h = (omega arith, digits_all (d ∷ ds) h)

by_tests : (a b : Bool) (n : ℕ) → a ≡ true → b ≡ true → (if a && b then Some n else None) ≡ Some n
by_tests true true n p q = refl
by_tests true false n p q = absurd cc
by_tests false b n p q = absurd cc

-- no text with a plus in front is a number
pub signed : (rest : List ℕ) → None ≡ number_in (43 ∷ rest)
signed rest = refl

begins : (b : ℕ) (text : List ℕ) → get_or (b ∷ text) 0 0 ≡ 43 → ((rest : List ℕ) → b ∷ text ≡ 43 ∷ rest → ⊥) → ⊥
begins b text is never = never text (ap (λ (c : ℕ). c ∷ text) is)

-- a text without a plus
no_plus : (text : List ℕ) → ((rest : List ℕ) → text ≡ 43 ∷ rest → ⊥) → get_or text 0 0 ≡ 43 → ⊥
no_plus [] never is = absurd cc
no_plus (b ∷ text) never is = begins b text is never

-- what parsing a text of digits says
abbrev Reads : List ℕ → Type 0
Reads text = IsNumeral 10 (without_leading_plus text) × (digits_value 10 (without_leading_plus text) < 2 ^ 64)

pub read : (text : List ℕ) (n : ℕ) → ((rest : List ℕ) → text ≡ 43 ∷ rest → ⊥) → Reads text × (n ≡ digits_value 10 (without_leading_plus text)) → Some n ≡ number_in text
read text n never is =
    let ds = without_leading_plus text in
    ap (λ (k : ℕ). Some k) is.1
    ∙ sym (by_tests (is_numeral ds) (nat_lt (digits_value 10 ds) (2 ^ 64)) (digits_value 10 ds) (numeral ds is.0.0) (below (digits_value 10 ds) (2 ^ 64) is.0.1))
    ∙ ap number_in (without_leading_plus_none text (no_plus text never))

none_by : (a b : Bool) (n : ℕ) → ((a ≡ true) × (b ≡ true) → ⊥) → None ≡ (if a && b then Some n else None)
none_by true true n never = absurd (never (refl, refl))
none_by true false n never = refl
none_by false b n never = refl

pub not_read : (text : List ℕ) → ((rest : List ℕ) → text ≡ 43 ∷ rest → ⊥) → (Reads text → ⊥) → None ≡ number_in text
not_read text none never =
    let ds = without_leading_plus text in
    none_by (is_numeral ds) (nat_lt (digits_value 10 ds) (2 ^ 64)) (digits_value 10 ds) (λ h. never (is_one ds h.0, is_below (digits_value 10 ds) (2 ^ 64) h.1))
    ∙ ap number_in (without_leading_plus_none text (no_plus text none))
