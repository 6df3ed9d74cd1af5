-- The schema that a CREATE TABLE gives.
use Rattle.std.specs.Prelude.{ℕ, ◌&&◌, not, List, map, min}
use Rattle.std.specs.List.{filter_map, list_any}
use Rattle.sql_text.specs.Checks.{same_name}
use Rattle.sql_text.specs.declared.tree.ColumnType.{ColumnType}
use Rattle.sql_text.specs.declared.tree.ColumnType.TheVariants as type
use Rattle.sql_text.specs.declared.tree.Definition.{Definition}
use Rattle.sql_text.specs.declared.tree.KeyColumn.{KeyColumn}
use Rattle.row_values.specs.declared.column.Kind.{Kind}
use Rattle.row_values.specs.declared.column.Kind.TheVariants.{SmallInt, Integer, BigInt, VarChar, VarBinary}
use Rattle.row_values.specs.Column.{Column}
use Rattle.row_values.specs.Schema.{Schema}
use Rattle.sql_semantics.specs.Values.{column_place, name_of}

abbrev pub kind_of : ColumnType → Kind
kind_of type.SmallInt = SmallInt
kind_of type.Integer = Integer
kind_of type.BigInt = BigInt
kind_of (type.VarChar n) = VarChar
kind_of (type.VarBinary n) = VarBinary

-- the number of bytes, which two bytes write; a statement that is parsed has at most 2,000
abbrev pub limit_of : ColumnType → ℕ
limit_of (type.VarChar n) = min n 65535
limit_of (type.VarBinary n) = min n 65535
limit_of _ = 0

-- a column of the key takes no NULL, written or not
abbrev pub defined_column : List KeyColumn → Definition → Column
defined_column key d = record {
  name = name_of d.name;
  kind = kind_of d.column_type;
  is_nullable = d.nullable && not (list_any (λ k. same_name k.name d.name) key);
  limit = limit_of d.column_type;
}

abbrev pub defined_columns : List Definition → List KeyColumn → List Column
defined_columns ds key = map (defined_column key) ds

unfoldable pub defined_schema : List Definition → List KeyColumn → Schema
defined_schema ds key = record { columns = defined_columns ds key; key = filter_map (λ k. column_place (defined_columns ds key) k.name) key }
