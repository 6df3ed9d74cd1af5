-- Rows: the values of a descriptor's fields (DRDA V5 volume 2, FD:OCA data; volume 3, FDODTA).
use Rattle.std.specs.Prelude.{◌≡◌, ◌⊎◌, ℕ, ◌≤◌, Bool, true, false, List, [], ◌∷◌, ◌++◌, length}
use Rattle.std.specs.Str.{is_utf8}
use Rattle.std.specs.Int.{Width, w16, w32, w64, cast_signed}
use Rattle.byteorder.specs.Endian.{big_number}
use Rattle.drda_words.specs.Number.{word}
use Rattle.row_values.specs.Value.{Value, null, number, text, binary}
use Rattle.fdoca.specs.declared.field.Field.{Field}
use Rattle.fdoca.specs.declared.field.FieldType.{FieldType}
use Rattle.fdoca.specs.declared.field.FieldType.TheVariants.{SmallInt, Integer, BigInt, FixedBytes, FixedText, VariableBytes, VariableText}
use Rattle.fdoca.specs.Descriptor.{Describes}

-- the bytes, so many, are this number: two's complement, the highest byte first
abbrev pub IsNumber : ℕ → Width → List ℕ → Value → Type 0
IsNumber size width bytes value = (length bytes ≡ size) × (value ≡ number (cast_signed width (big_number size bytes)))

-- the bytes are this content behind its length, which is at most the limit
abbrev pub IsCounted : ℕ → List ℕ → List ℕ → Type 0
IsCounted limit bytes content =
    (high low : ℕ) × (bytes ≡ high ∷ low ∷ content) × (word high low ≡ length content) × (length content ≤ limit)

-- the bytes are this value of a type, in a field of this length; texts are UTF-8
abbrev pub IsContent : FieldType → ℕ → List ℕ → Value → Type 0
IsContent SmallInt limit bytes value = IsNumber 2 w16 bytes value
IsContent Integer limit bytes value = IsNumber 4 w32 bytes value
IsContent BigInt limit bytes value = IsNumber 8 w64 bytes value
IsContent FixedBytes limit bytes value = (length bytes ≡ limit) × (value ≡ binary bytes)
IsContent FixedText limit bytes value = (length bytes ≡ limit) × (is_utf8 bytes ≡ true) × (value ≡ text bytes)
IsContent VariableBytes limit bytes value = (content : List ℕ) × IsCounted limit bytes content × (value ≡ binary content)
IsContent VariableText limit bytes value = (content : List ℕ) × IsCounted limit bytes content × (is_utf8 content ≡ true) × (value ≡ text content)

-- the bytes are FF for NULL, or 00 and a value
abbrev pub IsMarked : FieldType → ℕ → List ℕ → Value → Type 0
IsMarked of limit bytes value =
    ((bytes ≡ 0xFF ∷ []) × (value ≡ null)) ⊎ ((content : List ℕ) × (bytes ≡ 0x00 ∷ content) × IsContent of limit content value)

-- only values of a nullable field are marked
abbrev pub IsValueOf : Bool → FieldType → ℕ → List ℕ → Value → Type 0
IsValueOf true of limit bytes value = IsMarked of limit bytes value
IsValueOf false of limit bytes value = IsContent of limit bytes value

-- the bytes are this value of a field
abbrev pub IsValue : Field → List ℕ → Value → Type 0
IsValue field bytes value = IsValueOf field.is_nullable field.field_type field.length bytes value

-- the bytes are the values of the fields, one for each, one after the other
abbrev pub AreValues : List Field → List ℕ → List Value → Type 0
AreValues [] bytes [] = bytes ≡ []
AreValues [] bytes (value ∷ values) = ⊥
AreValues (field ∷ fields) bytes [] = ⊥
AreValues (field ∷ fields) bytes (value ∷ values) =
    (front rest : List ℕ) × (bytes ≡ front ++ rest) × IsValue field front value × AreValues fields rest values

-- the bytes are a row of these fields with these values: 00, the values, and nothing else
abbrev pub IsRow : List Field → List ℕ → List Value → Type 0
IsRow fields bytes values = (content : List ℕ) × (bytes ≡ 0x00 ∷ content) × AreValues fields content values

-- a descriptor and a row of it, on whole texts, with the row's values
abbrev pub AreParameters : List ℕ → List ℕ → List Value → Type 0
AreParameters descriptor row values = (fields : List Field) × Describes descriptor fields × IsRow fields row values
