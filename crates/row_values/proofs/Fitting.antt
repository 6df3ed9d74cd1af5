-- What fits a column.
use Rattle.std.proofs.Common.{◌≡◌, List, ℕ, Bool, true, false, refl, sym, ap, ◌∙◌, Result, Ok, Err, Option, Some, None, option_map, if◌then◌else◌, Bor, true≢false}
use Rattle.std.specs.Prelude.{is_err, is_none, is_ok, MatchResult, ◌&&◌}
use Rattle.std.specs.Result.{result_err, result_ok}
use Rattle.std.specs.Str.{IsUtf8, is_utf8}
use Rattle.std.proofs.lemmas.Str.{is_utf8-from_IsUtf8, IsUtf8-from_is_utf8}
use Rattle.row_values.specs.declared.column.Misfit.{Misfit}
use Rattle.row_values.specs.Value.{Value, is_value, text}
use Rattle.row_values.specs.Column.{Column, misfit_of, fits}
use Rattle.row_values.specs.Row.{utf8_in}

-- a value is admitted exactly where it fits
verdict : (r : Result (Unit {0}) Misfit) (o : Option Misfit) (whole : Bool) → result_err r ≡ o → whole ≡ true → is_ok r ≡ (is_none o && whole)
verdict (Ok x) o whole same is = rw (← same, is) refl
verdict (Err e) o whole same is = rw (← same) refl

pub fits_text : (column : Column) (value : Value) (bytes : List ℕ) (r : Result (Unit {0}) Misfit) → value ≡ text bytes → result_err r ≡ misfit_of column (text bytes) → IsUtf8 bytes → is_ok r ≡ fits column value
fits_text column value bytes r is same utf8 = verdict r (misfit_of column (text bytes)) (is_utf8 bytes) same (is_utf8-from_IsUtf8 bytes utf8) ∙ ap (fits column) (sym is)

pub fits_other : (column : Column) (value other : Value) (r : Result (Unit {0}) Misfit) → value ≡ other → is_value other ≡ true → result_err r ≡ misfit_of column other → is_ok r ≡ fits column value
fits_other column value other r is whole same = verdict r (misfit_of column other) (is_value other) same whole ∙ ap (fits column) (sym is)

-- `from_utf8` tells UTF-8 from what is not
told : (bytes : List ℕ) {E : Type 0} (P : E → Type 0) (r : Result (Bor (List ℕ)) E) (b : Bool) → is_utf8 bytes ≡ b → MatchResult r (λ s. (s.now ≡ bytes) × IsUtf8 bytes) (λ e. ¬ (IsUtf8 bytes) × P e)
    → option_map (λ (s : Bor (List ℕ)). s.now) (result_ok r) ≡ (if b then Some bytes else None)
told bytes P (Ok s) true is h = ap Some h.0
told bytes P (Ok s) false is h = absurd (true≢false (sym (is_utf8-from_IsUtf8 bytes h.1) ∙ is))
told bytes P (Err e) true is h = absurd (h.0 (IsUtf8-from_is_utf8 bytes is))
told bytes P (Err e) false is h = refl

pub utf8_told : (bytes : List ℕ) {E : Type 0} (P : E → Type 0) (r : Result (Bor (List ℕ)) E) (o : Option (Bor (List ℕ))) → o ≡ result_ok r → MatchResult r (λ s. (s.now ≡ bytes) × IsUtf8 bytes) (λ e. ¬ (IsUtf8 bytes) × P e)
    → option_map (λ (s : Bor (List ℕ)). s.now) o ≡ utf8_in bytes
utf8_told bytes P r o is cases = ap (option_map (λ (s : Bor (List ℕ)). s.now)) is ∙ told bytes P r (is_utf8 bytes) refl cases

-- what `is_err` says of a test that `is_ok` is
pub told_true : (r : Result (Unit {0}) Misfit) (b : Bool) → is_ok r ≡ b → is_err r ≡ false → b ≡ true
told_true (Ok x) b is h = sym is
told_true (Err e) b is h = absurd cc

pub told_false : (r : Result (Unit {0}) Misfit) (b : Bool) → is_ok r ≡ b → is_err r ≡ true → b ≡ false
told_false (Ok x) b is h = absurd cc
told_false (Err e) b is h = sym is
