-- What the names and literals of a statement stand for.
use Rattle.std.specs.Prelude.{ℕ, ℤ, pos, negsuc, int_le, nat_le, length, Bool, List, [], ◌∷◌, ◌+◌, ◌%◌, map, ◌&&◌, if◌then◌else◌, Option, Some, None, unwrap_or, position}
use Rattle.std.specs.List.{slice_get}
use Rattle.std.specs.Option.{option_and_then}
use Rattle.sql_text.specs.Checks.{same_name}
use Rattle.sql_text.specs.Spelled.{LiteralValue, Absent, Number, Text, Bytes, Bound, capitals, value_of_literal}
use Rattle.sql_text.specs.declared.tree.Literal.{Literal}
use Rattle.sql_text.specs.declared.tree.Term.{Term}
use Rattle.sql_text.specs.declared.tree.Term.TheVariants as term
use Rattle.row_values.specs.Value.{Value, null, number, text, binary}
use Rattle.row_values.specs.Row.{utf8_in}
use Rattle.row_values.specs.Column.{Column}

-- ---- values

abbrev pub is_bigint : ℤ → Bool
is_bigint n = int_le (negsuc 9223372036854775807) n && int_le n (pos 9223372036854775807)

-- A number past BIGINT, a text that is no UTF-8 and digits that are none stand in no statement that
-- is parsed. Here they count as NULL, and as bytes, so that each literal has a value.
unfoldable pub number_given : ℤ → Value
number_given (pos n) = if nat_le n 9223372036854775807 then number (pos n) else null
number_given (negsuc n) = if nat_le n 9223372036854775807 then number (negsuc n) else null

abbrev pub text_or_null : Option (List ℕ) → Value
text_or_null (Some bytes) = text bytes
text_or_null None = null

abbrev pub text_given : List ℕ → Value
text_given bytes = text_or_null (utf8_in bytes)

abbrev pub bytes_given : List ℕ → Value
bytes_given bytes = binary (map (λ b. b % 256) bytes)

abbrev pub given_value : List Value → LiteralValue → Value
given_value params Absent = null
given_value params (Number n) = number_given n
given_value params (Text bytes) = text_given bytes
given_value params (Bytes bytes) = bytes_given bytes
given_value params (Bound n) = unwrap_or (slice_get params n) null

-- the value of a literal, with these for the markers
abbrev pub literal_value : List Value → Literal → Value
literal_value params v = given_value params (value_of_literal v)

-- ---- names

abbrev pub short_name : List ℕ → Option (List ℕ)
short_name bytes = if nat_le (length bytes) 255 then Some bytes else None

-- a name in capitals; no text has one that is no UTF-8, or past 255 bytes
unfoldable pub name_of : List ℕ → List ℕ
name_of spelled = unwrap_or (option_and_then short_name (utf8_in (capitals spelled))) []

-- the place of the column of this name, in whatever case it is spelled
abbrev pub column_place : List Column → List ℕ → Option ℕ
column_place columns name = position (λ c. same_name c.name name) columns

-- the value of that column
abbrev pub named_value : List Column → List Value → List ℕ → Value
named_value columns values name = unwrap_or (option_and_then (slice_get values) (column_place columns name)) null

abbrev pub term_value : List Value → List Column → List Value → Term → Value
term_value params columns values (term.Column name) = named_value columns values name
term_value params columns values (term.Value v) = literal_value params v

-- the places of all columns, from this one on
abbrev pub all_places : {A : Type 0} → ℕ → List A → List ℕ
all_places i [] = []
all_places i (c ∷ cs) = i ∷ all_places (i + 1) cs
