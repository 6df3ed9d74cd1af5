-- Names that are the same whatever the case of their letters.
use Rattle.std.proofs.Common.{◌≡◌, ◌≢◌, Bool, true, false, refl, List, ℕ, map, sym, ap, ◌∙◌}
use Rattle.std.specs.Char.{to_ascii_lowercase, to_ascii_uppercase}
use Rattle.std.specs.Cmp.Lexicographic.{same_text, other_text}
use Rattle.sql_lex.specs.Spelling.{capitals}
use Rattle.sql_lex.proofs.Spelled.{lower_capitals, capitals_lower}
use Rattle.sql_text.specs.Checks.{same_name}

same_low : (a b : List ℕ) → capitals a ≡ capitals b → map to_ascii_lowercase a ≡ map to_ascii_lowercase b
same_low a b e = sym (lower_capitals a) ∙ ap (λ z. map to_ascii_lowercase z) e ∙ lower_capitals b

pub same_capitals : (a b : List ℕ) → same_name a b ≡ true → capitals a ≡ capitals b
same_capitals a b e =
    let low : map to_ascii_lowercase a ≡ map to_ascii_lowercase b = same_text _ _ (sym e) in
    sym (capitals_lower a) ∙ ap (λ z. map to_ascii_uppercase z) low ∙ capitals_lower b

pub other_capitals : (a b : List ℕ) → same_name a b ≡ false → capitals a ≢ capitals b
other_capitals a b e same = other_text _ _ (sym e) (same_low a b same)

same_by : (b : Bool) (a c : List ℕ) → same_name a c ≡ b → capitals a ≡ capitals c → b ≡ true
same_by true a c e same = refl
same_by false a c e same = absurd (other_capitals a c e same)

pub same_from_capitals : (a b : List ℕ) → capitals a ≡ capitals b → same_name a b ≡ true
same_from_capitals a b same = same_by (same_name a b) a b refl same
