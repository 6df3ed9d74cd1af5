-- What is left to do of a statement whose table is there, once its names and literals are resolved.
use Rattle.std.specs.Prelude.{◌≡◌, ℕ, Bool, true, List, Option, Some, None, length, map, filter}
use Rattle.sql_text.specs.declared.tree.Command.{Command}
use Rattle.sql_text.specs.declared.tree.Sum.{Sum}
use Rattle.row_values.specs.Value.{Value}
use Rattle.row_values.specs.Schema.{Schema}
use Rattle.row_values.specs.Row.{values_in}
use Rattle.row_values.specs.Key.{row_key}
use Rattle.tables.specs.Change.{remove}
use Rattle.tables.specs.RowList.{is_selection}
use Rattle.core_calls.specs.declared.sql_fault.SqlFault.{SqlFault}
use Rattle.sql_semantics.specs.Checked.{and_then}
use Rattle.sql_semantics.specs.Meaning.{Answer, Refused, Rows, answer, answered, has_key, put_answer, within_room}
use Rattle.sql_semantics.specs.Scope.{Scope, table_name}
use Rattle.sql_semantics.specs.Update.{updated_rows}
use Rattle.sql_predicates.specs.Test.{passes}
use Rattle.sql_predicates.specs.declared.filter.Filter.{Filter}
use Rattle.sql_changes.specs.Given.{values_given}
use Rattle.sql_changes.specs.Assigned.{StandFor}
use Rattle.sql_changes.specs.declared.target.Targets.{Targets}
use Rattle.small_sql.specs.Scope.{key_in}
use Rattle.small_sql.specs.declared.task.Task.{Task}
use Rattle.small_sql.specs.declared.task.Task.TheVariants as task

-- the places that a SELECT asks for are columns of its table
abbrev pub selects : Option Schema → Task → Bool
selects (Some schema) (task.Select places filter) = is_selection schema places.items
selects _ _ = true

-- those of the rows of a schema that match
abbrev pub matching : Filter → Schema → List (List ℕ) → List (List ℕ)
matching f schema rows = filter (λ row. passes f (values_in schema row)) rows

-- ---- what comes of rows of a table

module _ (table : List ℕ) (schema : Schema) (left : ℕ) where
  -- of the rows in the scope of a key those that have it stand in the way
  abbrev pub inserted : Option (List ℕ) → List Value → List (List ℕ) → Answer
  inserted key values rows = answered (put_answer left table schema (filter (has_key schema key) rows) values)

  abbrev pub updated : List Value → List (ℕ × Sum) → List (List ℕ) → Answer
  updated params ts rows = answered (and_then (updated_rows params table schema ts rows) (λ changes. within_room left changes (length rows)))

  abbrev pub removed : List (List ℕ) → Answer
  removed rows = answered (within_room left (map (λ row. remove table (row_key schema row)) rows) (length rows))

-- ---- a task is that of a statement: whatever rows of its table are in scope, it comes to the statement's answer

module _ (params : List Value) (c : Command) where
  abbrev pub IsRefused : Schema → SqlFault → Type 0
  IsRefused schema fault = (left : ℕ) (rows : List (List ℕ)) (tables : ℕ) → answer params left c (Some schema) rows tables ≡ Refused fault

  -- the targets stand for those that the assignments have in this schema
  pub record Updates (schema : Schema) (targets : Targets) (f : Filter) : Type 0 where
    pub meant : List (ℕ × Sum)
    pub stand : StandFor params schema.columns targets meant
    pub come : (left : ℕ) (rows : List (List ℕ)) (tables : ℕ) → answer params left c (Some schema) rows tables ≡ updated (table_name c) schema left params meant (matching f schema rows)

  abbrev pub DoesFound : Schema → Scope → Task → Type 0
  DoesFound schema scope (task.Refused fault) = IsRefused schema fault
  DoesFound schema scope (task.Insert row) =
      (left : ℕ) (rows : List (List ℕ)) (tables : ℕ) → answer params left c (Some schema) rows tables ≡ inserted (table_name c) schema left (key_in scope) (values_given row) rows
  DoesFound schema scope (task.Update targets f) = Updates schema targets f
  DoesFound schema scope (task.Delete f) =
      (left : ℕ) (rows : List (List ℕ)) (tables : ℕ) → answer params left c (Some schema) rows tables ≡ removed (table_name c) schema left (matching f schema rows)
  DoesFound schema scope (task.Select places f) =
      (left : ℕ) (rows : List (List ℕ)) (tables : ℕ) → answer params left c (Some schema) rows tables ≡ Rows (record { schema = schema; selected = places.items; rows = matching f schema rows })

  -- where its table is not there, the statement says all that is to be done
  abbrev pub Does : Option Schema → Scope → Task → Type 0
  Does None scope t = Unit {0}
  Does (Some schema) scope t = DoesFound schema scope t
