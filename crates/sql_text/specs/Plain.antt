-- A statement without the places that are kept while it is read.
use Rattle.std.specs.Prelude.{map}
use Rattle.sql_text.specs.declared.draft.DraftType.{DraftType}
use Rattle.sql_text.specs.declared.draft.DraftType.TheVariants as read
use Rattle.sql_text.specs.declared.draft.DraftColumn.{DraftColumn}
use Rattle.sql_text.specs.declared.draft.DraftKey.{DraftKey}
use Rattle.sql_text.specs.declared.draft.Draft.{Draft}
use Rattle.sql_text.specs.declared.draft.Draft.TheVariants as draft
use Rattle.sql_text.specs.declared.tree.ColumnType.{ColumnType}
use Rattle.sql_text.specs.declared.tree.ColumnType.TheVariants as column
use Rattle.sql_text.specs.declared.tree.Definition.{Definition}
use Rattle.sql_text.specs.declared.tree.KeyColumn.{KeyColumn}
use Rattle.sql_text.specs.declared.tree.Command.{Command}
use Rattle.sql_text.specs.declared.tree.Command.TheVariants as made

abbrev pub column_type : DraftType → ColumnType
column_type read.SmallInt = column.SmallInt
column_type read.Integer = column.Integer
column_type read.BigInt = column.BigInt
column_type (read.VarChar n left) = column.VarChar n
column_type (read.VarBinary n left) = column.VarBinary n

abbrev pub definition : DraftColumn → Definition
definition d = record { name = d.name; column_type = column_type d.column_type; nullable = d.nullable }

abbrev pub key_column : DraftKey → KeyColumn
key_column k = record { name = k.name }

abbrev pub command : Draft → Command
command (draft.Create table columns key) = made.Create table (map definition columns) (map key_column key)
command (draft.Insert table columns values) = made.Insert table columns values
command (draft.Update table assignments filter) = made.Update table assignments filter
command (draft.Delete table filter) = made.Delete table filter
command (draft.Select columns table filter) = made.Select columns table filter
