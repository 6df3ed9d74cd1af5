-- How a reader goes over a descriptor and a row. The laws say that it finds what the relations of
-- `Descriptor` and `Row` say, and no more.
use Rattle.std.specs.Prelude.{ℕ, zero, suc, ◌-◌, ◌/◌, ◌%◌, ◌&&◌, ◌==◌, nat_le, if◌then◌else◌, List, [], ◌∷◌, length, take, drop, Option, Some, None, option_map, bytes_eq}
use Rattle.std.specs.Option.{option_and_then}
use Rattle.std.specs.Str.{is_utf8}
use Rattle.std.specs.Int.{Width, w16, w32, w64, cast_signed}
use Rattle.byteorder.specs.Endian.{big_number}
use Rattle.drda_words.specs.Number.{word}
use Rattle.row_values.specs.Value.{Value, null, number, text, binary}
use Rattle.fdoca.specs.declared.field.Field.{Field}
use Rattle.fdoca.specs.declared.field.FieldType.{FieldType}
use Rattle.fdoca.specs.declared.field.FieldType.TheVariants.{SmallInt, Integer, BigInt, FixedBytes, FixedText, VariableBytes, VariableText}
use Rattle.fdoca.specs.Types.{field_of}
use Rattle.fdoca.specs.Descriptor.{closing}

-- how many fields a triplet of this length has
abbrev pub fields_within : ℕ → Option ℕ
fields_within size = if nat_le 3 size && (size % 3 == 0) then Some ((size - 3) / 3) else None

-- the head of a triplet that continues the one before: how many fields it has
abbrev pub continued_by : ℕ → ℕ → Option ℕ
continued_by size what = if what == 0x7F then fields_within size else None

-- with what follows
unfoldable pub continued_at : List ℕ → Option (ℕ × List ℕ)
continued_at (size ∷ what ∷ identity ∷ bytes) = option_map (λ count. (count, bytes)) (continued_by size what)
continued_at bytes = None

-- the field in front, with what follows
unfoldable pub field_at : List ℕ → Option (Field × List ℕ)
field_at (type_number ∷ high ∷ low ∷ bytes) = option_map (λ field. (field, bytes)) (field_of type_number (word high low))
field_at bytes = None

-- no more fields, where the closing triplet stands in front
abbrev pub closes : List ℕ → Option (List Field)
closes bytes = if bytes_eq closing (take 6 bytes) then Some [] else None

abbrev pub goes_on : Option ℕ → (ℕ → Option (List Field)) → Option (List Field) → Option (List Field)
goes_on (Some count) go otherwise = go count
goes_on None go otherwise = otherwise

-- A descriptor goes by threes behind its first bytes: a field, or the head of a triplet. This is what
-- follows where so many fields of a triplet are still to come, up to the closing triplet.
abbrev pub fields_at : ℕ → List ℕ → Option (List Field)
fields_at left [] = None
fields_at left (a ∷ []) = None
fields_at left (a ∷ b ∷ []) = None
fields_at zero (size ∷ what ∷ identity ∷ bytes) =
    goes_on (continued_by size what) (λ count. fields_at count bytes) (closes (size ∷ what ∷ identity ∷ bytes))
fields_at (suc left) (type_number ∷ high ∷ low ∷ bytes) =
    option_and_then (λ field. option_map (λ fields. field ∷ fields) (fields_at left bytes)) (field_of type_number (word high low))

-- the fields of a descriptor
unfoldable pub descriptor_at : List ℕ → Option (List Field)
descriptor_at (size ∷ what ∷ identity ∷ bytes) =
    if (what == 0x76) && (identity == 0xD0) then option_and_then (λ count. fields_at count bytes) (fields_within size) else None
descriptor_at bytes = None

-- the first bytes, so many, with what follows
unfoldable pub front_of : ℕ → List ℕ → Option (List ℕ × List ℕ)
front_of count bytes = if nat_le count (length bytes) then Some (take count bytes, drop count bytes) else None

-- a number of so many bytes in front, with what follows
abbrev pub number_at : ℕ → Width → List ℕ → Option (Value × List ℕ)
number_at size width bytes = option_map (λ (x : List ℕ × List ℕ). (number (cast_signed width (big_number size x.0)), x.1)) (front_of size bytes)

-- the content behind a length in front, where it is at most the limit, with what follows
unfoldable pub counted_at : ℕ → List ℕ → Option (List ℕ × List ℕ)
counted_at limit (high ∷ low ∷ bytes) = if nat_le (word high low) limit then front_of (word high low) bytes else None
counted_at limit bytes = None

-- the bytes, where they are UTF-8
abbrev pub utf8_in : List ℕ → Option (List ℕ)
utf8_in bytes = if is_utf8 bytes then Some bytes else None

abbrev pub as_bytes : Option (List ℕ × List ℕ) → Option (Value × List ℕ)
as_bytes x = option_map (λ (x : List ℕ × List ℕ). (binary x.0, x.1)) x

abbrev pub as_text : Option (List ℕ × List ℕ) → Option (Value × List ℕ)
as_text x = option_and_then (λ (x : List ℕ × List ℕ). option_map (λ content. (text content, x.1)) (utf8_in x.0)) x

-- a value of a type in front, with what follows
abbrev pub content_at : FieldType → ℕ → List ℕ → Option (Value × List ℕ)
content_at SmallInt limit bytes = number_at 2 w16 bytes
content_at Integer limit bytes = number_at 4 w32 bytes
content_at BigInt limit bytes = number_at 8 w64 bytes
content_at FixedBytes limit bytes = as_bytes (front_of limit bytes)
content_at FixedText limit bytes = as_text (front_of limit bytes)
content_at VariableBytes limit bytes = as_bytes (counted_at limit bytes)
content_at VariableText limit bytes = as_text (counted_at limit bytes)

-- behind its mark
abbrev pub marked_at : FieldType → ℕ → List ℕ → Option (Value × List ℕ)
marked_at of limit [] = None
marked_at of limit (mark ∷ bytes) = if mark == 0xFF then Some (null, bytes) else (if mark == 0x00 then content_at of limit bytes else None)

-- a value of a field in front, with what follows
unfoldable pub value_at : Field → List ℕ → Option (Value × List ℕ)
value_at field bytes = if field.is_nullable then marked_at field.field_type field.length bytes else content_at field.field_type field.length bytes

-- the values of fields, and no byte more
abbrev pub values_at : List Field → List ℕ → Option (List Value)
values_at [] [] = Some []
values_at [] (byte ∷ bytes) = None
values_at (field ∷ fields) bytes =
    option_and_then (λ (x : Value × List ℕ). option_map (λ values. x.0 ∷ values) (values_at fields x.1)) (value_at field bytes)

-- the values of a row
unfoldable pub row_at : List Field → List ℕ → Option (List Value)
row_at fields [] = None
row_at fields (mark ∷ bytes) = if mark == 0x00 then values_at fields bytes else None
