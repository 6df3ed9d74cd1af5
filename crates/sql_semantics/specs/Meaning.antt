-- What a statement is answered: by the schema of its table and the rows that it is about.
use Rattle.std.specs.Prelude.{ℕ, Bool, false, ◌&&◌, ◌==◌, nat_le, nat_lt, List, [], ◌∷◌, length, map, filter, bytes_eq, Option, Some, None, Ok, Err}
use Rattle.std.specs.List.{flat_map}
use Rattle.sql_text.specs.declared.tree.Columns.{Columns}
use Rattle.sql_text.specs.declared.tree.Assignment.{Assignment}
use Rattle.sql_text.specs.declared.tree.Predicate.{Predicate}
use Rattle.sql_text.specs.declared.tree.Command.{Command}
use Rattle.sql_text.specs.declared.tree.Command.TheVariants as command
use Rattle.row_values.specs.Value.{Value}
use Rattle.row_values.specs.Schema.{Schema, is_name, is_schema}
use Rattle.row_values.specs.Row.{values_in}
use Rattle.row_values.specs.Key.{row_key}
use Rattle.tables.specs.RowList.{RowList}
use Rattle.tables.specs.Change.{change_bytes}
use Rattle.tables.specs.Change.{Change, create, put, remove}
use Rattle.tables.specs.Tables.{Store, rows_of, schema_of}
use Rattle.sql_semantics.specs.Checked.{Checked, and_then, if_none, unless}
use Rattle.sql_semantics.specs.Values.{literal_value, name_of}
use Rattle.sql_semantics.specs.Truth.{matches}
use Rattle.sql_semantics.specs.Classes.{filter_fault, selected_places}
use Rattle.sql_semantics.specs.Insert.{first_misfit, given_key, given_row, new_row}
use Rattle.sql_semantics.specs.Update.{targets, updated_rows}
use Rattle.sql_semantics.specs.Create.{defined_schema}
use Rattle.sql_semantics.specs.Scope.{table_name}
use Rattle.core_calls.specs.declared.sql_fault.SqlFault.{SqlFault}
use Rattle.core_calls.specs.declared.sql_fault.SqlFault.TheVariants as fault

pub data Answer : Type 0 where
  Refused : SqlFault → Answer
  -- and how many rows they concern
  Changes : List Change → ℕ → Answer
  Rows : RowList → Answer

-- ---- each kind of statement

abbrev pub answered : Checked Answer → Answer
answered (Ok a) = a
answered (Err e) = Refused e

-- the changes, where there is room for their bytes
abbrev pub within_room : ℕ → List Change → ℕ → Checked Answer
within_room left changes n = unless (nat_le (length (flat_map change_bytes changes)) left) fault.LimitReached (Ok (Changes changes n))

abbrev pub create_answer : ℕ → List ℕ → Schema → ℕ → Checked Answer
create_answer left table schema tables =
    unless (is_name table && is_schema schema) fault.Syntax
    (unless (nat_lt tables 1000) fault.LimitReached
    (within_room left (create table schema ∷ []) 0))

-- others: the rows that have the new row's key
abbrev pub put_answer : ℕ → List ℕ → Schema → List (List ℕ) → List Value → Checked Answer
put_answer left table schema others values =
    if_none (first_misfit schema.columns values)
    (and_then (new_row schema values)
    (λ row. unless (length others == 0) fault.KeyExists (within_room left (put table row ∷ []) 1)))

abbrev pub insert_answer : ℕ → List ℕ → Schema → Columns → List Value → List (List ℕ) → Checked Answer
insert_answer left table schema named values others = and_then (given_row schema named values) (put_answer left table schema others)

abbrev pub delete_answer : ℕ → List Value → List ℕ → Schema → Option Predicate → List (List ℕ) → Checked Answer
delete_answer left params table schema filter rows =
    if_none (filter_fault params schema.columns filter) (within_room left (map (λ row. remove table (row_key schema row)) rows) (length rows))

abbrev pub select_answer : List Value → Schema → Columns → Option Predicate → List (List ℕ) → Checked Answer
select_answer params schema named filter rows =
    and_then (selected_places schema.columns named) (λ places. if_none (filter_fault params schema.columns filter) (Ok (Rows (record { schema = schema; selected = places; rows = rows }))))

abbrev pub update_answer : ℕ → List Value → List ℕ → Schema → List Assignment → Option Predicate → List (List ℕ) → Checked Answer
update_answer left params table schema assignments filter rows =
    and_then (targets params schema.columns schema.key [] assignments) (λ ts. if_none (filter_fault params schema.columns filter) (and_then (updated_rows params table schema ts rows) (λ ds. within_room left ds (length rows))))

-- ---- all of them

-- the row has this key
abbrev pub has_key : Schema → Option (List ℕ) → List ℕ → Bool
has_key schema None row = false
has_key schema (Some key) row = bytes_eq key (row_key schema row)

-- the rows that a statement is about: of an INSERT those that have its key, else those that count
abbrev pub concerns : List Value → Command → Schema → List ℕ → Bool
concerns params (command.Create table definitions key) schema row = false
concerns params (command.Insert table named values) schema row = has_key schema (given_key schema named (map (literal_value params) values)) row
concerns params (command.Update table assignments filter) schema row = matches params schema.columns (values_in schema row) filter
concerns params (command.Delete table filter) schema row = matches params schema.columns (values_in schema row) filter
concerns params (command.Select named table filter) schema row = matches params schema.columns (values_in schema row) filter

-- by those of them that there are
abbrev pub found_answer : List Value → ℕ → Command → Schema → List (List ℕ) → Checked Answer
found_answer params left (command.Create table definitions key) schema rows = Err fault.TableExists
found_answer params left (command.Insert table named values) schema rows = insert_answer left (name_of table) schema named (map (literal_value params) values) rows
found_answer params left (command.Update table assignments filter) schema rows = update_answer left params (name_of table) schema assignments filter rows
found_answer params left (command.Delete table filter) schema rows = delete_answer left params (name_of table) schema filter rows
found_answer params left (command.Select named table filter) schema rows = select_answer params schema named filter rows

abbrev pub absent_answer : ℕ → Command → ℕ → Checked Answer
absent_answer left (command.Create table definitions key) tables = create_answer left (name_of table) (defined_schema definitions key) tables
absent_answer left _ tables = Err fault.TableUnknown

-- by the schema of the table, some rows of it, and the number of tables
abbrev pub answer_by : List Value → ℕ → Command → Option Schema → List (List ℕ) → ℕ → Checked Answer
answer_by params left c None rows tables = absent_answer left c tables
answer_by params left c (Some schema) rows tables = found_answer params left c schema (filter (concerns params c schema) rows)

unfoldable pub answer : List Value → ℕ → Command → Option Schema → List (List ℕ) → ℕ → Answer
answer params left c schema rows tables = answered (answer_by params left c schema rows tables)

-- what a statement is answered over a store, where so many bytes of changes are left
abbrev pub meaning : List Value → ℕ → Command → Store → Answer
meaning params left c s = answer params left c (schema_of s (table_name c)) (rows_of s (table_name c)) (length s)
