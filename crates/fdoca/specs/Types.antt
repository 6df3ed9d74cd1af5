-- The data types of FD:OCA that are served here (DRDA V5 volume 2, "FD:OCA Data Types").
use Rattle.std.specs.Prelude.{ℕ, ◌-◌, ◌%◌, Bool, true, ◌==◌, if◌then◌else◌, List, [], ◌∷◌, Option, Some, None, nat_eq}
use Rattle.std.specs.Map.{lookup}
use Rattle.std.specs.Option.{option_and_then}
use Rattle.fdoca.specs.declared.field.Field.{Field}
use Rattle.fdoca.specs.declared.field.FieldType.{FieldType}
use Rattle.fdoca.specs.declared.field.FieldType.TheVariants.{SmallInt, Integer, BigInt, FixedBytes, FixedText, VariableBytes, VariableText}

-- Each type by its number, which is even; the nullable form of a type has the number that follows.
abbrev pub types : List (ℕ × FieldType)
types =
    (0x02, Integer) ∷
    (0x04, SmallInt) ∷
    (0x16, BigInt) ∷
    (0x26, FixedBytes) ∷
    (0x28, VariableBytes) ∷
    (0x2A, VariableBytes) ∷
    (0x30, FixedText) ∷
    (0x32, VariableText) ∷
    (0x34, VariableText) ∷
    (0x3C, FixedText) ∷
    (0x3E, VariableText) ∷
    (0x40, VariableText) ∷
    []

unfoldable pub field_type_of : ℕ → Option FieldType
field_type_of number = lookup (nat_eq number) types

-- a number has the length of its type, any other value any length
abbrev pub is_length : FieldType → ℕ → Bool
is_length SmallInt length = length == 2
is_length Integer length = length == 4
is_length BigInt length = length == 8
is_length FixedBytes length = true
is_length FixedText length = true
is_length VariableBytes length = true
is_length VariableText length = true

-- the field that a number and a length say
unfoldable pub field_of : ℕ → ℕ → Option Field
field_of number length =
    option_and_then (λ field_type. if is_length field_type length then Some (record { field_type = field_type; is_nullable = number % 2 == 1; length = length }) else None)
    (field_type_of (number - number % 2))
