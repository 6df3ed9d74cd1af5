-- What the calls answer.
use Rattle.std.specs.Prelude.{◌≡◌, ℕ, ◌<◌, ◌≤◌, List, length, Option, Some, None, IfSome, Result, Ok, Err}
use Rattle.row_values.specs.Value.{Value}
use Rattle.fdoca.specs.declared.fault.DescriptorFault.{DescriptorFault}
use Rattle.fdoca.specs.declared.fault.DescriptorFault.TheVariants.{Malformed, TooManyFields, NoMemory}
use Rattle.fdoca.specs.declared.field.Field.{Field}
use Rattle.fdoca.specs.Descriptor.{Describes}
use Rattle.fdoca.specs.Row.{IsRow}

-- the most fields of a descriptor
abbrev pub most_fields : ℕ
most_fields = 128

-- how many of them, and of values, are kept without an allocation
abbrev pub kept_in_place : ℕ
kept_in_place = 16

-- What is answered for a descriptor: its fields, at most 128; or that it is none. Memory may be refused
-- past 16 fields.
abbrev pub ReadsDescriptor : List ℕ → Result (List Field) DescriptorFault → Type 0
ReadsDescriptor bytes (Ok fields) = Describes bytes fields × (length fields ≤ most_fields)
ReadsDescriptor bytes (Err Malformed) = (fields : List Field) → Describes bytes fields → ⊥
ReadsDescriptor bytes (Err TooManyFields) = (fields : List Field) → Describes bytes fields → most_fields < length fields
ReadsDescriptor bytes (Err NoMemory) = (fields : List Field) → Describes bytes fields → kept_in_place < length fields

-- What is answered for a row: its values, or that it is none of these fields. Memory may be refused past
-- 16 values.
abbrev pub ReadsRow : List Field → List ℕ → Result (List Value) DescriptorFault → Type 0
ReadsRow fields bytes (Ok values) = IsRow fields bytes values
ReadsRow fields bytes (Err Malformed) = (values : List Value) → IsRow fields bytes values → ⊥
ReadsRow fields bytes (Err TooManyFields) = ⊥
ReadsRow fields bytes (Err NoMemory) = kept_in_place < length fields

-- ---- behind the calls: what the steps answer, by the reader's own words

-- the fields that stand there, at most 128
abbrev pub GivesFields : Option (List Field) → Result (List Field) DescriptorFault → Type 0
GivesFields found (Ok fields) = (found ≡ Some fields) × (length fields ≤ most_fields)
GivesFields found (Err Malformed) = found ≡ None
GivesFields found (Err TooManyFields) = IfSome found (λ fields. most_fields < length fields)
GivesFields found (Err NoMemory) = IfSome found (λ fields. kept_in_place < length fields)

-- the values that stand there
abbrev pub GivesValues : List Field → Option (List Value) → Result (List Value) DescriptorFault → Type 0
GivesValues fields found (Ok values) = found ≡ Some values
GivesValues fields found (Err Malformed) = found ≡ None
GivesValues fields found (Err TooManyFields) = ⊥
GivesValues fields found (Err NoMemory) = kept_in_place < length fields
