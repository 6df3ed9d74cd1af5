-- Answers: how rows of columns are described and written (DRDA V5 volume 3, QRYDSC and QRYDTA; volume 2,
-- FD:OCA).
use Rattle.std.specs.Prelude.{ℕ, ◌+◌, ◌*◌, Bool, true, false, ◌==◌, if◌then◌else◌, List, [], ◌∷◌, ◌++◌, length}
use Rattle.std.specs.List.{flat_map}
use Rattle.std.specs.Int.{to_be_bytes, w16}
use Rattle.drda_words.specs.Number.{word}
use Rattle.row_values.specs.declared.column.Kind.{Kind}
use Rattle.row_values.specs.declared.column.Kind.TheVariants.{SmallInt, Integer, BigInt, VarChar, VarBinary}
use Rattle.row_values.specs.Value.{Value}
use Rattle.row_values.specs.Column.{Column}
use Rattle.row_values.specs.Row.{content_bytes, value_bytes}
use Rattle.fdoca.specs.declared.field.Field.{Field}
use Rattle.fdoca.specs.declared.field.FieldType.{FieldType}
use Rattle.fdoca.specs.declared.field.FieldType.TheVariants as of

-- the type that the values of a column are sent with, and its number
abbrev pub field_type_for : Kind → FieldType
field_type_for SmallInt = of.SmallInt
field_type_for Integer = of.Integer
field_type_for BigInt = of.BigInt
field_type_for VarChar = of.VariableText
field_type_for VarBinary = of.VariableBytes

abbrev pub type_number : Kind → ℕ
type_number SmallInt = 0x04
type_number Integer = 0x02
type_number BigInt = 0x16
type_number VarChar = 0x3E
type_number VarBinary = 0x28

-- a number's length is that of its type, any other's the declared one
abbrev pub length_for : Kind → ℕ → ℕ
length_for SmallInt limit = 2
length_for Integer limit = 4
length_for BigInt limit = 8
length_for VarChar limit = limit
length_for VarBinary limit = limit

-- the field that describes a column
abbrev pub field_for : Column → Field
field_for column = record { field_type = field_type_for column.kind; is_nullable = column.is_nullable; length = length_for column.kind column.limit }

-- its bytes
abbrev pub field_bytes : Column → List ℕ
field_bytes column =
    (if column.is_nullable then type_number column.kind + 1 else type_number column.kind) ∷ to_be_bytes w16 (length_for column.kind column.limit)

-- the triplets that end the description of an answer: one row with the fields before, and as many rows as
-- there are
abbrev pub answer_closing : List ℕ
answer_closing = 0x09 ∷ 0x71 ∷ 0xE0 ∷ 0x54 ∷ 0x00 ∷ 0x01 ∷ 0xD0 ∷ 0x00 ∷ 0x01 ∷ 0x06 ∷ 0x71 ∷ 0xF0 ∷ 0xE0 ∷ 0x00 ∷ 0x00 ∷ []

-- the triplet of the fields
abbrev pub answer_fields : List Column → List ℕ
answer_fields columns = (3 + 3 * length columns) ∷ 0x76 ∷ 0xD0 ∷ flat_map field_bytes columns

-- the description of rows of these columns
abbrev pub answer_descriptor : List Column → List ℕ
answer_descriptor columns = answer_fields columns ++ answer_closing

-- a value of a column, which is marked only where the column takes NULL
abbrev pub sent_value : Bool → Kind → Value → List ℕ
sent_value true kind value = value_bytes kind value
sent_value false kind value = content_bytes kind value

-- a value of each column, one after the other
abbrev pub sent_values : List Column → List Value → List ℕ
sent_values [] values = []
sent_values (column ∷ columns) [] = []
sent_values (column ∷ columns) (value ∷ values) = sent_value column.is_nullable column.kind value ++ sent_values columns values

-- a row of an answer: no card before it (FF), then the row, which is there (00)
abbrev pub answer_row : List Column → List Value → List ℕ
answer_row columns values = 0xFF ∷ 0x00 ∷ sent_values columns values

-- ---- behind the calls: how a row is walked as it lies

-- how many bytes a text or bytes have that stand behind their length
abbrev pub counted_size : List ℕ → ℕ
counted_size [] = 0
counted_size (high ∷ []) = 0
counted_size (high ∷ low ∷ bytes) = 2 + word high low

-- how many bytes the content has that stands in front
abbrev pub content_size : Kind → List ℕ → ℕ
content_size SmallInt bytes = 2
content_size Integer bytes = 4
content_size BigInt bytes = 8
content_size VarChar bytes = counted_size bytes
content_size VarBinary bytes = counted_size bytes

-- how many bytes the value has that stands in front, its mark counted
abbrev pub value_size : Kind → List ℕ → ℕ
value_size kind [] = 0
value_size kind (mark ∷ bytes) = if mark == 0x00 then 1 + content_size kind bytes else 1
