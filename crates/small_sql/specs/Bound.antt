-- A statement that is bound to the schema of its table.
use Rattle.std.specs.Prelude.{◌≡◌, List, Option, option_map}
use Rattle.std.specs.Arc.{arc_value}
use Rattle.std.specs.String.{string_bytes}
use Rattle.sql_text.specs.declared.tree.Command.{Command}
use Rattle.row_values.specs.Value.{Value}
use Rattle.row_values.specs.Schema.{Schema}
use Rattle.tables.specs.Tables.{Store, schema_of}
use Rattle.sql_semantics.specs.Scope.{scope, statement_access, table_name}
use Rattle.small_sql.specs.Scope.{scope_of}
use Rattle.small_sql.specs.Task.{Does}
use Rattle.small_sql.specs.declared.bound.Bound.{Bound}

-- the schema that it is bound to, or none where it is bound to there being no table
abbrev pub bound_schema : Bound → Option Schema
bound_schema b = option_map arc_value b.schema

-- it is made of this statement, with these values for its markers
pub record IsBound (params : List Value) (c : Command) (b : Bound) : Type 0 where
  pub made_of : b.command.now ≡ c
  pub table : string_bytes b.table ≡ table_name c
  pub access : b.access ≡ statement_access c (bound_schema b)
  pub works_on : scope_of b.scope ≡ scope params c (bound_schema b)
  pub does : Does params c (bound_schema b) (scope_of b.scope) b.task

-- in this store its table has the schema that it is bound to, or is not there
abbrev pub IsOver : Bound → Store → Type 0
IsOver b s = bound_schema b ≡ schema_of s (string_bytes b.table)
