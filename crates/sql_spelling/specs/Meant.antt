-- The statements that the texts are.
use Rattle.std.specs.Prelude.{◌≡◌, ◌≢◌, ◌≤◌, ℕ, true, List, length, map, Ok}
use Rattle.std.specs.Fmt.{signed_decimal}
use Rattle.std.specs.List.{AllByRecursion}
use Rattle.drda_words.specs.Bytes.{AreBytes}
use Rattle.sql_lex.specs.Spelling.{doubled}
use Rattle.sql_lex.specs.Terminal.{spelling}
use Rattle.sql_lex.specs.declared.terminal.Terminal.{Terminal}
use Rattle.sql_text.specs.Spelled.{pairs_of}
use Rattle.sql_text.specs.Text.{reading}
use Rattle.sql_text.specs.declared.tree.Literal.{Literal}
use Rattle.sql_text.specs.declared.tree.Literal.TheVariants as literal
use Rattle.sql_text.specs.declared.tree.ColumnType.{ColumnType}
use Rattle.sql_text.specs.declared.tree.ColumnType.TheVariants as type
use Rattle.sql_text.specs.declared.tree.Definition.{Definition}
use Rattle.sql_text.specs.declared.tree.KeyColumn.{KeyColumn}
use Rattle.sql_text.specs.declared.tree.Columns.TheVariants as columns
use Rattle.sql_text.specs.declared.tree.Command.{Command}
use Rattle.sql_text.specs.declared.tree.Command.TheVariants as command
use Rattle.row_values.specs.declared.column.Kind.{Kind}
use Rattle.row_values.specs.declared.column.Kind.TheVariants.{SmallInt, Integer, BigInt, VarChar, VarBinary}
use Rattle.row_values.specs.Value.{Value, null, number, text, binary}
use Rattle.row_values.specs.Column.{Column}
use Rattle.row_values.specs.Schema.{Schema, key_columns, is_name, is_schema}
use Rattle.row_values.specs.Row.{is_row, values_in}
use Rattle.sql_spelling.specs.Text.{create_text, insert_text}

-- ---- a row

abbrev pub literal_of : Value → Literal
literal_of null = literal.Null
literal_of (number n) = literal.Number (signed_decimal n)
literal_of (text bytes) = literal.Text (doubled bytes)
literal_of (binary bytes) = literal.Bytes (pairs_of bytes)

-- INSERT INTO the table, of all values in their order
abbrev pub inserted : List ℕ → List Value → Command
inserted name values = command.Insert name columns.All (map literal_of values)

-- ---- a table

abbrev pub type_of : Kind → ℕ → ColumnType
type_of SmallInt n = type.SmallInt
type_of Integer n = type.Integer
type_of BigInt n = type.BigInt
type_of VarChar n = type.VarChar n
type_of VarBinary n = type.VarBinary n

abbrev pub definition_of : Column → Definition
definition_of c = record { name = c.name; column_type = type_of c.kind c.limit; nullable = c.is_nullable }

abbrev pub key_column_of : Column → KeyColumn
key_column_of c = record { name = c.name }

-- CREATE TABLE of its columns, with its key
abbrev pub created : List ℕ → Schema → Command
created name schema = command.Create name (map definition_of schema.columns) (map key_column_of (key_columns schema))

-- ---- how a text is parsed

-- no word of the grammar: only those are refused as names of tables and columns
abbrev pub IsFree : List ℕ → Type 0
IsFree name = (w : Terminal) → name ≢ spelling w

-- no column has a word of the grammar as its name
abbrev pub AreFree : List Column → Type 0
AreFree columns = AllByRecursion (λ c. IsFree c.name) columns

-- the text is read as this statement, which has no markers; `parse` answers what `reading` gives
abbrev pub IsReadAs : List ℕ → Command → Type 0
IsReadAs sql c = (reading sql ≡ Ok (record { command = c; markers = 0 })) × (length sql ≤ 32767)

-- ---- laws

-- the CREATE TABLE that is written of a table is read as the statement that makes it
abbrev pub TablesAreRead : Type 0
TablesAreRead = (name : List ℕ) (schema : Schema) → is_name name ≡ true → IsFree name → is_schema schema ≡ true → AreFree schema.columns → IsReadAs (create_text name schema) (created name schema)

-- the INSERT that is written of a row is read as the statement that inserts its values
abbrev pub RowsAreRead : Type 0
RowsAreRead = (name : List ℕ) (schema : Schema) (row : List ℕ) → is_name name ≡ true → IsFree name → is_schema schema ≡ true → AreBytes row → is_row schema row ≡ true → IsReadAs (insert_text name (values_in schema row)) (inserted name (values_in schema row))
