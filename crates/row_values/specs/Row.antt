-- The bytes of rows and of keys: per column 00 and the value, or FF for NULL. Numbers are two's
-- complement, the highest byte first; texts and bytes stand behind a length of two bytes.
use Rattle.std.specs.Prelude.{◌≡◌, ℕ, Bool, true, false, List, [], ◌∷◌, ◌++◌, length, take, drop, Option, Some, None, ◌&&◌, ◌==◌, nat_le, is_some, if◌then◌else◌, option_map, unwrap_or, ◌≤◌, ◌<◌, Result, Ok, Err}
use Rattle.std.specs.Global.{Vec}
use Rattle.std.specs.Option.{option_and_then}
use Rattle.std.specs.Str.{is_utf8}
use Rattle.std.specs.Int.{Width, w16, w32, w64, cast_signed, cast_unsigned}
use Rattle.byteorder.specs.Endian.{big_bytes, big_number}
use Rattle.row_values.specs.declared.column.Kind.{Kind}
use Rattle.row_values.specs.declared.column.Kind.TheVariants.{SmallInt, Integer, BigInt, VarChar, VarBinary}
use Rattle.row_values.specs.Value.{Value, null, number, text, binary}
use Rattle.row_values.specs.Column.{Column, fits}
use Rattle.row_values.specs.Schema.{Schema}
use Rattle.row_values.specs.declared.row.RowError.{RowError}
use Rattle.row_values.specs.declared.row.RowError.TheVariants.{TooLong, NoMemory}

-- ---- the bytes of values that fit their columns

-- a text or bytes behind their length
abbrev pub counted : List ℕ → List ℕ
counted bytes = big_bytes 2 (length bytes) ++ bytes

-- a value of a type, behind its mark
abbrev pub content_bytes : Kind → Value → List ℕ
content_bytes SmallInt (number n) = big_bytes 2 (cast_unsigned w16 n)
content_bytes Integer (number n) = big_bytes 4 (cast_unsigned w32 n)
content_bytes BigInt (number n) = big_bytes 8 (cast_unsigned w64 n)
content_bytes VarChar (text bytes) = counted bytes
content_bytes VarBinary (binary bytes) = counted bytes
content_bytes kind value = []

abbrev pub value_bytes : Kind → Value → List ℕ
value_bytes kind null = 255 ∷ []
value_bytes kind (number n) = 0 ∷ content_bytes kind (number n)
value_bytes kind (text bytes) = 0 ∷ content_bytes kind (text bytes)
value_bytes kind (binary bytes) = 0 ∷ content_bytes kind (binary bytes)

-- one value per column, in order
abbrev pub row_bytes : List Column → List Value → List ℕ
row_bytes [] values = []
row_bytes (column ∷ columns) [] = []
row_bytes (column ∷ columns) (value ∷ values) = value_bytes column.kind value ++ row_bytes columns values

-- there is one value per column, and each fits
abbrev pub all_fit : List Column → List Value → Bool
all_fit [] [] = true
all_fit [] (value ∷ values) = false
all_fit (column ∷ columns) [] = false
all_fit (column ∷ columns) (value ∷ values) = fits column value && all_fit columns values

-- where the bytes of a column's value begin in a row, and the bytes themselves
abbrev pub place_of : List Column → List Value → ℕ → ℕ
place_of columns values i = length (row_bytes (take i columns) (take i values))

-- ---- the values of bytes

-- the first n bytes, with what follows
unfoldable pub front_of : ℕ → List ℕ → Option (List ℕ × List ℕ)
front_of n bytes = if nat_le n (length bytes) then Some (take n bytes, drop n bytes) else None

-- a number of n bytes in front, with what follows
abbrev pub number_at : ℕ → Width → List ℕ → Option (Value × List ℕ)
number_at n w bytes = option_map (λ (x : List ℕ × List ℕ). (number (cast_signed w (big_number n x.0)), x.1)) (front_of n bytes)

-- the bytes behind a length of two bytes in front, with what follows
abbrev pub counted_at : List ℕ → Option (List ℕ × List ℕ)
counted_at bytes = option_and_then (λ (x : List ℕ × List ℕ). front_of (big_number 2 x.0) x.1) (front_of 2 bytes)

-- the bytes, where they are UTF-8
abbrev pub utf8_in : List ℕ → Option (List ℕ)
utf8_in bytes = if is_utf8 bytes then Some bytes else None

abbrev pub content_at : Kind → List ℕ → Option (Value × List ℕ)
content_at SmallInt bytes = number_at 2 w16 bytes
content_at Integer bytes = number_at 4 w32 bytes
content_at BigInt bytes = number_at 8 w64 bytes
content_at VarChar bytes = option_and_then (λ x. option_map (λ content. (text content, x.1)) (utf8_in x.0)) (counted_at bytes)
content_at VarBinary bytes = option_map (λ x. (binary x.0, x.1)) (counted_at bytes)

-- a value of a type, with what follows
abbrev pub typed_value_at : Kind → List ℕ → Option (Value × List ℕ)
typed_value_at kind [] = None
typed_value_at kind (mark ∷ bytes) = if mark == 255 then Some (null, bytes) else (if mark == 0 then content_at kind bytes else None)

-- a value that fits the column, with what follows
unfoldable pub value_at : Column → List ℕ → Option (Value × List ℕ)
value_at column bytes = option_and_then (λ x. if fits column x.0 then Some x else None) (typed_value_at column.kind bytes)

-- the values of bytes that have one per column, each of which fits, and no byte more
abbrev pub values_at : List Column → List ℕ → Option (List Value)
values_at [] [] = Some []
values_at [] (byte ∷ bytes) = None
values_at (column ∷ columns) bytes =
    option_and_then (λ (x : Value × List ℕ). option_map (λ values. x.0 ∷ values) (values_at columns x.1)) (value_at column bytes)

-- the values of bytes that have some, else none
abbrev pub values_or_none : List Column → List ℕ → List Value
values_or_none columns bytes = unwrap_or (values_at columns bytes) []

-- the rest of the bytes has the values from place i on, and begins where the earlier ones end
abbrev pub StandsFrom : List Column → List ℕ → ℕ → List ℕ → Type 0
StandsFrom columns bytes i rest = (values_at (drop i columns) rest ≡ Some (drop i (values_or_none columns bytes)))
    × (bytes ≡ row_bytes (take i columns) (take i (values_or_none columns bytes)) ++ rest)

-- ---- rows

-- the values of a row, which has at most 4,000 bytes
abbrev pub values_of : Schema → List ℕ → Option (List Value)
values_of schema row = if nat_le (length row) 4000 then values_at schema.columns row else None

abbrev pub is_row : Schema → List ℕ → Bool
is_row schema row = is_some (values_of schema row)

-- the values of bytes that are a row
abbrev pub values_in : Schema → List ℕ → List Value
values_in schema row = unwrap_or (values_of schema row) []

-- what the bytes of a row may be answered by: the bytes, at most 4,000, or that they are more
abbrev pub Encodes : List ℕ → Result (Vec ℕ) RowError → Type 0
Encodes bytes (Ok row) = (row.items ≡ bytes) × (length bytes ≤ 4000)
Encodes bytes (Err TooLong) = 4000 < length bytes
Encodes bytes (Err NoMemory) = Unit {0}
