-- Texts are UTF-8.
use Rattle.std.proofs.Common.{◌≡◌, Bool, true, false, ℕ, List, refl, sym, ap, ◌∙◌, if◌then◌else◌, Some, None, [], length, ◌≤◌, unwrap_or}
use Rattle.std.proofs.lemmas.Str.{IsUtf8-from_is_utf8, is_utf8-from_IsUtf8}
use Rattle.std.proofs.lemmas.Bool.{le-leb}
use Rattle.std.proofs.Math.Bool.{Bool-set}
use Rattle.std.proofs.Math.Logic.{∥∥₁_elim}
use Rattle.std.specs.Str.{IsUtf8, is_utf8}
use Rattle.std.specs.Option.{option_and_then}
use Rattle.sql_lex.specs.Spelling.{capitals}
use Rattle.row_values.specs.Value.{Value, null, text}
use Rattle.sql_semantics.specs.Values.{text_given, text_or_null, name_of, short_name}

pub told : (z : List ℕ) → ∥ IsUtf8 z ∥₁ → is_utf8 z ≡ true
told z h = ∥∥₁_elim h (Bool-set _ _) (is_utf8-from_IsUtf8 z)

given : List ℕ → Bool → Value
given z b = text_or_null (if b then Some z else None)

pub is_text : (z : List ℕ) → is_utf8 z ≡ true → text z ≡ text_given z
unfolding given
is_text z h = sym (ap (given z) h)

no_text_by : (z : List ℕ) (b : Bool) → is_utf8 z ≡ b → (IsUtf8 z → ⊥) → null ≡ text_given z
unfolding given
no_text_by z true e h = absurd (h (IsUtf8-from_is_utf8 z e))
no_text_by z false e h = sym (ap (given z) e)

pub no_text : (z : List ℕ) → (IsUtf8 z → ⊥) → null ≡ text_given z
no_text z h = no_text_by z (is_utf8 z) refl h

-- ---- names

named : List ℕ → Bool → List ℕ
named up b = unwrap_or (option_and_then short_name (if b then Some up else None)) []

short : List ℕ → Bool → List ℕ
short up b = unwrap_or (if b then Some up else None) []

pub is_table : (z up : List ℕ) → up ≡ capitals z → is_utf8 up ≡ true → length up ≤ 255 → up ≡ name_of z
unfolding name_of named short
is_table z up e u le =
    sym (ap (short up) (le-leb (length up) 255 le)) ∙ sym (ap (named up) u) ∙ ap (λ (x : List ℕ). named x (is_utf8 x)) e

no_table_by : (z up : List ℕ) (b : Bool) → up ≡ capitals z → is_utf8 up ≡ b → (IsUtf8 up → ⊥) → [] ≡ name_of z
unfolding name_of named
no_table_by z up true e t h = absurd (h (IsUtf8-from_is_utf8 up t))
no_table_by z up false e t h = sym (ap (named up) t) ∙ ap (λ (x : List ℕ). named x (is_utf8 x)) e

pub no_table : (z up : List ℕ) → up ≡ capitals z → (IsUtf8 up → ⊥) → [] ≡ name_of z
no_table z up e h = no_table_by z up (is_utf8 up) e refl h
