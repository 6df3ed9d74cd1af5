-- A value that is spelled is the value of its literal.
use Rattle.std.proofs.Common.{◌≡◌, ℕ, zero, suc, ◌+◌, ◌*◌, ◌/◌, ◌%◌, ◌^◌, ◌≤◌, ◌<◌, Bool, true, false, ◌&&◌, List, [], ◌∷◌, ◌++◌, length, map, Option, Some, None, refl, sym, ap, ◌∙◌, subst, arith}
use Rattle.std.specs.Prelude.{ℤ, pos, negsuc, nat_le, nat_lt, ◌==◌, slice_index}
use Rattle.std.specs.Str.{is_utf8}
use Rattle.std.proofs.lemmas.Bool.Decides.{nat_tests}
use Rattle.drda_words.specs.Bytes.{AreBytes}
use Rattle.sql_text.specs.Spelled.{bytes_of_pairs, pairs_of, digit_value, hexadecimal_digit}
use Rattle.sql_text.proofs.Undone.{undone}
use Rattle.row_values.specs.declared.column.Kind.{Kind}
use Rattle.row_values.specs.Column.{Column, fits}
use Rattle.row_values.specs.Value.{Value, null, number, text, binary}
use Rattle.row_values.specs.Row.{all_fit, row_bytes, utf8_in, value_bytes}
use Rattle.row_values.proofs.ValueLaws.{first_true, second_true}
use Rattle.sql_semantics.specs.Values.{literal_value, number_given, text_or_null}
use Rattle.sql_spelling.specs.Meant.{literal_of}
use Rattle.sql_spelling.proofs.Numbers.{InBigInt, number_again}
use Rattle.sql_spelling.proofs.Values.{IsWhole}
use Rattle.sql_spelling.proofs.Reading.{value_whole}

-- ---- numbers

within : (n : ℕ) → n < 2 ^ 63 → nat_le n 9223372036854775807 ≡ true
within n small = grind (arith, nat_tests)

number_is : (z : ℤ) → InBigInt z → number_given z ≡ number z
unfolding number_given
number_is (pos n) small = rw (within n small) refl
number_is (negsuc n) small = rw (within n small) refl

-- ---- bytes

digit_back : (n : ℕ) → n < 16 → digit_value (hexadecimal_digit n) ≡ n
digit_back n small = grind (arith, nat_tests)

byte_back : (b : ℕ) → b < 256 → (digit_value (hexadecimal_digit (b / 16)) * 16 + digit_value (hexadecimal_digit (b % 16))) % 256 ≡ b
byte_back b small =
    let high = digit_back (b / 16) (omega arith) in
    let low = digit_back (b % 16) (omega arith) in
    rw (high, low) (omega arith)

bytes_back : (z : List ℕ) → AreBytes z → map (λ b. b % 256) (bytes_of_pairs (pairs_of z)) ≡ z
bytes_back [] bytes = refl
bytes_back (b ∷ z) bytes = ap (λ u. u ∷ map (λ c. c % 256) (bytes_of_pairs (pairs_of z))) (byte_back b (bytes 0)) ∙ ap (λ u. b ∷ u) (bytes_back z (λ i. bytes (suc i)))

-- ---- values

text_is : (z : List ℕ) → is_utf8 z ≡ true → text_or_null (utf8_in z) ≡ text z
text_is z good = rw good refl

value_back : (params : List Value) (nullable : Bool) (kind : Kind) (limit : ℕ) (name : List ℕ) (v : Value) → fits (record { name = name; kind = kind; is_nullable = nullable; limit = limit }) v ≡ true → IsWhole v → literal_value params (literal_of v) ≡ v
value_back params nullable kind limit name null fit whole = refl
value_back params nullable kind limit name (number z) fit whole = ap number_given (number_again z whole) ∙ number_is z whole
value_back params nullable kind limit name (text z) fit whole = ap (λ u. text_or_null (utf8_in u)) (undone z) ∙ text_is z (second_true _ _ fit)
value_back params nullable kind limit name (binary z) fit whole = ap binary (bytes_back z whole)

pub value_comes_back : (params : List Value) (column : Column) (v : Value) → fits column v ≡ true → AreBytes (value_bytes column.kind v) → literal_value params (literal_of v) ≡ v
value_comes_back params column v fit bytes =
    value_back params column.is_nullable column.kind column.limit column.name v fit (value_whole column.is_nullable column.kind column.limit column.name v fit bytes)
