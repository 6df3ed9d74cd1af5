-- The laws that tie the definitions to one another.
use Rattle.std.specs.Prelude.{◌≡◌, ℕ, Bool, List, map, true, Some}
use Rattle.std.specs.List.{list_all}
use Rattle.row_values.specs.Value.{Value}
use Rattle.row_values.specs.Column.{Column}
use Rattle.row_values.specs.Schema.{is_limit}
use Rattle.row_values.specs.Row.{all_fit}
use Rattle.fdoca.specs.declared.field.Field.{Field}
use Rattle.fdoca.specs.Descriptor.{Describes, IsTriplet}
use Rattle.fdoca.specs.Row.{AreParameters, AreValues, IsRow}
use Rattle.fdoca.specs.Reading.{descriptor_at, row_at}
use Rattle.fdoca.specs.Writing.{answer_fields, field_for, sent_values}

-- a text describes one list of fields at most
abbrev pub DescribesOnce : Type 0
DescribesOnce = (bytes : List ℕ) (fields others : List Field) → Describes bytes fields → Describes bytes others → fields ≡ others

-- a text is, as a row of fields, one list of values at most
abbrev pub IsRowOnce : Type 0
IsRowOnce = (fields : List Field) (bytes : List ℕ) (values others : List Value) → IsRow fields bytes values → IsRow fields bytes others → values ≡ others

-- so a descriptor and a row have one reading at most
abbrev pub AreParametersOnce : Type 0
AreParametersOnce = (descriptor row : List ℕ) (values others : List Value) → AreParameters descriptor row values → AreParameters descriptor row others → values ≡ others

-- the reader of a descriptor finds the fields that it describes, and no others
abbrev pub DescriptorIsFound : Type 0
DescriptorIsFound = (bytes : List ℕ) (fields : List Field) → Describes bytes fields → descriptor_at bytes ≡ Some fields

abbrev pub FoundIsDescriptor : Type 0
FoundIsDescriptor = (bytes : List ℕ) (fields : List Field) → descriptor_at bytes ≡ Some fields → Describes bytes fields

-- the reader of a row finds its values, and no others
abbrev pub RowIsFound : Type 0
RowIsFound = (fields : List Field) (bytes : List ℕ) (values : List Value) → IsRow fields bytes values → row_at fields bytes ≡ Some values

abbrev pub FoundIsRow : Type 0
FoundIsRow = (fields : List Field) (bytes : List ℕ) (values : List Value) → row_at fields bytes ≡ Some values → IsRow fields bytes values

-- the lengths of the columns are such as columns have
abbrev pub have_limits : List Column → Bool
have_limits columns = list_all (λ column. is_limit column.kind column.limit) columns

-- the triplet of an answer's description has the fields of its columns
abbrev pub DescriptionIsRead : Type 0
DescriptionIsRead = (columns : List Column) → have_limits columns ≡ true → IsTriplet 0x76 0xD0 (answer_fields columns) (map field_for columns)

-- and values that fit the columns are read back from a row of the answer
abbrev pub SentIsRead : Type 0
SentIsRead = (columns : List Column) (values : List Value) → have_limits columns ≡ true → all_fit columns values ≡ true → AreValues (map field_for columns) (sent_values columns values) values
