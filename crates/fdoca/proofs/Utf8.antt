-- `from_utf8` tells UTF-8 from what is not.
use Rattle.std.proofs.Common.{◌≡◌, List, ℕ, Bool, true, false, refl, sym, ap, ◌∙◌, Result, Ok, Err, Option, Some, None, option_map, if◌then◌else◌, Bor, true≢false}
use Rattle.std.specs.Prelude.{MatchResult}
use Rattle.std.specs.Result.{result_ok}
use Rattle.std.specs.Str.{IsUtf8, is_utf8}
use Rattle.std.proofs.lemmas.Str.{is_utf8-from_IsUtf8, IsUtf8-from_is_utf8}
use Rattle.fdoca.specs.Reading.{utf8_in}

told : (bytes : List ℕ) {E : Type 0} (P : E → Type 0) (r : Result (Bor (List ℕ)) E) (b : Bool) → is_utf8 bytes ≡ b → MatchResult r (λ s. (s.now ≡ bytes) × IsUtf8 bytes) (λ e. ¬ (IsUtf8 bytes) × P e)
    → option_map (λ (s : Bor (List ℕ)). s.now) (result_ok r) ≡ (if b then Some bytes else None)
told bytes P (Ok s) true is h = ap Some h.0
told bytes P (Ok s) false is h = absurd (true≢false (sym (is_utf8-from_IsUtf8 bytes h.1) ∙ is))
told bytes P (Err e) true is h = absurd (h.0 (IsUtf8-from_is_utf8 bytes is))
told bytes P (Err e) false is h = refl

pub utf8_told : (bytes : List ℕ) {E : Type 0} (P : E → Type 0) (r : Result (Bor (List ℕ)) E) (o : Option (Bor (List ℕ))) → o ≡ result_ok r → MatchResult r (λ s. (s.now ≡ bytes) × IsUtf8 bytes) (λ e. ¬ (IsUtf8 bytes) × P e)
    → option_map (λ (s : Bor (List ℕ)). s.now) o ≡ utf8_in bytes
utf8_told bytes P r o is cases = ap (option_map (λ (s : Bor (List ℕ)). s.now)) is ∙ told bytes P r (is_utf8 bytes) refl cases
