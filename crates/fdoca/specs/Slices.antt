-- The texts and bytes of a row are slices of it, each at its place.
use Rattle.std.specs.Prelude.{◌≡◌, ℕ, ◌+◌, Bool, true, false, List, [], ◌∷◌, length}
use Rattle.drda_words.specs.Place.{StandsAt}
use Rattle.row_values.specs.Value.{Value, null, number, text, binary}
use Rattle.fdoca.specs.declared.field.Field.{Field}
use Rattle.fdoca.specs.declared.field.FieldType.{FieldType}
use Rattle.fdoca.specs.declared.field.FieldType.TheVariants.{SmallInt, Integer, BigInt, VariableBytes, VariableText}

-- how many bytes the mark of a value takes
abbrev pub mark_size : Bool → ℕ
mark_size true = 1
mark_size false = 0

-- how many bytes of a type's value stand before its text or bytes
abbrev pub count_size : FieldType → ℕ
count_size VariableBytes = 2
count_size VariableText = 2
count_size _ = 0

-- how many bytes a number of a type takes
abbrev pub number_size : FieldType → ℕ
number_size SmallInt = 2
number_size Integer = 4
number_size BigInt = 8
number_size _ = 0

-- how many bytes of a field's value stand before its text or bytes
abbrev pub lead : Field → ℕ
lead field = mark_size field.is_nullable + count_size field.field_type

-- how many bytes a value of a type takes, with its mark where it is marked
abbrev pub size_of : Bool → FieldType → Value → ℕ
size_of marked of null = 1
size_of marked of (number n) = mark_size marked + number_size of
size_of marked of (text content) = mark_size marked + count_size of + length content
size_of marked of (binary content) = mark_size marked + count_size of + length content

-- how many bytes a value of a field takes
abbrev pub value_size : Field → Value → ℕ
value_size field value = size_of field.is_nullable field.field_type value

-- a value whose text or bytes are to stand there is the slice of the row from that place on
abbrev pub Stands : List ℕ → ℕ → Value → Type 0
Stands row at (text content) = StandsAt row at content
Stands row at (binary content) = StandsAt row at content
Stands row at _ = Unit {0}

-- each value stands where those before it end, the first of them at this place, and the last ends the row
abbrev pub AllStand : List ℕ → ℕ → List Field → List Value → Type 0
AllStand row at [] [] = at ≡ length row
AllStand row at (field ∷ fields) (value ∷ values) = Stands row (at + lead field) value × AllStand row (at + value_size field value) fields values
AllStand row at _ _ = ⊥
