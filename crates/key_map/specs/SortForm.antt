-- Sort forms: bytes whose order, byte by byte, is the order of the keys that they stand for.
use Rattle.std.specs.Prelude.{◌≡◌, ◌+◌, ◌-◌, ℕ, ℤ, pos, negsuc, zero, suc, Bool, true, ◌&&◌, int_le, List, [], ◌∷◌, ◌++◌}
use Rattle.std.specs.List.{list_all}
use Rattle.std.specs.Ordering.{nat_cmp}
use Rattle.std.specs.Int.{bytes_high_first}
use Rattle.std.specs.Cmp.Lexicographic.{slice_cmp}
use Rattle.drda_words.specs.Bytes.{AreBytes}
use Rattle.row_values.specs.Value.{Value, null, number, text, binary, class_of, value_cmp}
use Rattle.row_values.specs.Schema.{Schema}
use Rattle.row_values.specs.Key.{is_key, key_cmp, key_values}

-- a number of BIGINT, counted from the least one
abbrev pub counted_up : ℤ → ℕ
counted_up (pos n) = n + 9223372036854775808
counted_up (negsuc n) = 9223372036854775807 - n

-- 255 stands behind each zero
abbrev pub byte_form : ℕ → List ℕ
byte_form zero = 0 ∷ 255 ∷ []
byte_form (suc b) = suc b ∷ []

-- a text or bytes, with two zeros at the end
abbrev pub text_form : List ℕ → List ℕ
text_form [] = 0 ∷ 0 ∷ []
text_form (b ∷ bytes) = byte_form b ++ text_form bytes

abbrev pub content_form : Value → List ℕ
content_form null = []
content_form (number n) = bytes_high_first 8 (counted_up n)
content_form (text bytes) = text_form bytes
content_form (binary bytes) = text_form bytes

-- a value behind its class
abbrev pub value_form : Value → List ℕ
value_form v = class_of v ∷ content_form v

abbrev pub values_form : List Value → List ℕ
values_form [] = []
values_form (v ∷ vs) = value_form v ++ values_form vs

abbrev pub sort_form : Schema → List ℕ → List ℕ
sort_form schema key = values_form (key_values schema key)

-- ---- laws

-- a number lies in BIGINT
abbrev pub is_sortable : Value → Bool
is_sortable null = true
is_sortable (number n) = int_le (negsuc 9223372036854775807) n && int_le n (pos 9223372036854775807)
is_sortable (text bytes) = true
is_sortable (binary bytes) = true

-- the forms of values have the order of the values
abbrev pub ValuesKeepOrder : Type 0
ValuesKeepOrder = (xs ys : List Value) → list_all is_sortable xs ≡ true → list_all is_sortable ys ≡ true → slice_cmp nat_cmp (values_form xs) (values_form ys) ≡ slice_cmp value_cmp xs ys

-- the forms of keys have the order of the keys
abbrev pub KeysKeepOrder : Type 0
KeysKeepOrder = (schema : Schema) (a b : List ℕ) → AreBytes a → AreBytes b → is_key schema a ≡ true → is_key schema b ≡ true → slice_cmp nat_cmp (sort_form schema a) (sort_form schema b) ≡ key_cmp schema a b
