-- Values are written as literals.
use Rattle.std.proofs.Common.{◌≡◌, ℕ, suc, ◌*◌, ◌/◌, ◌%◌, ◌<◌, true, List, [], ◌∷◌, length, map, refl, ap, arith}
use Rattle.std.specs.Char.{is_ascii_hexdigit}
use Rattle.std.specs.List.{list_all}
use Rattle.std.proofs.lemmas.Bool.Decides.{nat_tests}
use Rattle.drda_words.specs.Bytes.{AreBytes}
use Rattle.sql_lex.specs.Markers.{markers_in}
use Rattle.sql_text.specs.Grammar.{IsValue}
use Rattle.sql_text.specs.Spelled.{hexadecimal_digit, pairs_of}
use Rattle.sql_text.specs.declared.tree.Literal.{Literal}
use Rattle.row_values.specs.Value.{Value, null, number, text, binary}
use Rattle.sql_spelling.specs.Text.{value_text}
use Rattle.sql_spelling.specs.Meant.{literal_of}
use Rattle.sql_spelling.proofs.Cutting.{text_cut, bytes_cut}
use Rattle.sql_spelling.proofs.Lists.{AreFor, One, EachWrites}
use Rattle.sql_spelling.proofs.Numbers.{InBigInt, number_written}
use Rattle.sql_spelling.proofs.Writing.{Writes, null_word}

-- a number is one of BIGINT, and bytes are bytes
abbrev pub IsWhole : Value → Type 0
IsWhole null = Unit {0}
IsWhole (number z) = InBigInt z
IsWhole (text z) = Unit {0}
IsWhole (binary z) = AreBytes z

-- ---- pairs of digits

high : (b : ℕ) → b < 256 → is_ascii_hexdigit (hexadecimal_digit (b / 16)) ≡ true
high b small = one (b / 16) (omega arith)
  where
    one : (n : ℕ) → n < 16 → is_ascii_hexdigit (hexadecimal_digit n) ≡ true
    one n h = grind (arith, nat_tests)

low : (b : ℕ) → is_ascii_hexdigit (hexadecimal_digit (b % 16)) ≡ true
low b = one (b % 16) (omega arith)
  where
    one : (n : ℕ) → n < 16 → is_ascii_hexdigit (hexadecimal_digit n) ≡ true
    one n h = grind (arith, nat_tests)

pub are_hexadecimal : (z : List ℕ) → AreBytes z → list_all is_ascii_hexdigit (pairs_of z) ≡ true
are_hexadecimal [] bytes = refl
are_hexadecimal (b ∷ z) bytes = rw (high b (bytes 0), low b) (are_hexadecimal z (λ i. bytes (suc i)))

pub pairs_length : (z : List ℕ) → length (pairs_of z) ≡ 2 * length z
pairs_length [] = refl
pairs_length (b ∷ z) = let ih = pairs_length z in omega arith

pub are_even : (z : List ℕ) → length (pairs_of z) % 2 ≡ 0
are_even z = let n = pairs_length z in omega arith

-- ---- values

abbrev pub IsLiteralOf : Literal → Value → Type 0
IsLiteralOf l v = l ≡ literal_of v

literal_written : (v : Value) → IsWhole v → Writes (IsValue (literal_of v)) (value_text v)
literal_written null whole = null_word
literal_written (number z) whole = number_written z whole
literal_written (text z) whole = record { reads = λ rest e. (_, text_cut z rest e); marks = λ rest e. ap markers_in (text_cut z rest e) }
literal_written (binary z) whole = record {
  reads = λ rest e. (_, bytes_cut (pairs_of z) rest (are_even z) (are_hexadecimal z whole));
  marks = λ rest e. ap markers_in (bytes_cut (pairs_of z) rest (are_even z) (are_hexadecimal z whole));
}

pub value_written : (v : Value) → IsWhole v → Writes (One IsValue IsLiteralOf v) (value_text v)
value_written v whole = let w = literal_written v whole in record { reads = λ rest e. (literal_of v, refl, w.reads rest e); marks = w.marks }

abbrev pub AreWhole : List Value → Type 0
AreWhole [] = Unit {0}
AreWhole (v ∷ vs) = IsWhole v × AreWhole vs

pub values_written : (vs : List Value) → AreWhole vs → EachWrites (One IsValue IsLiteralOf) value_text vs
values_written [] whole = tt
values_written (v ∷ vs) (first, rest) = (value_written v first, values_written vs rest)

-- they are the literals of the values
pub literals_are : (ls : List Literal) (vs : List Value) → AreFor IsLiteralOf ls vs → ls ≡ map literal_of vs
literals_are [] [] are = refl
literals_are (l ∷ ls) (v ∷ vs) (one, are) = let rest = literals_are ls vs are in rw (one, rest) refl
literals_are [] (v ∷ vs) are = absurd are
literals_are (l ∷ ls) [] are = absurd are
