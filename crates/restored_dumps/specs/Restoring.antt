-- The statements of a dump, and what they make.
use Rattle.std.specs.Prelude.{◌≡◌, ◌≤◌, ◌<◌, ℕ, ◌+◌, ◌-◌, ◌==◌, if◌then◌else◌, Bool, true, List, [], ◌∷◌, ◌++◌, length, map, codes, Option, Some, None}
use Rattle.std.specs.List.{AllByRecursion, flat_map}
use Rattle.std.specs.Option.{option_and_then}
use Rattle.std.specs.Map.{values_of}
use Rattle.drda_words.specs.Bytes.{AreBytes}
use Rattle.sql_text.specs.declared.tree.Command.{Command}
use Rattle.row_values.specs.Schema.{Schema}
use Rattle.row_values.specs.Column.{Column, fits}
use Rattle.row_values.specs.Value.{Value}
use Rattle.row_values.specs.Row.{value_bytes, values_in}
use Rattle.tables.specs.Applied.{apply_all}
use Rattle.tables.specs.Change.{Change, change_bytes}
use Rattle.tables.specs.Tables.{Store, Table}
use Rattle.tables.specs.View.{is_store}
use Rattle.sql_semantics.specs.Meaning.{Answer, Refused, Changes, Rows, meaning}
use Rattle.sql_semantics.specs.Values.{literal_value}
use Rattle.sql_spelling.specs.Text.{create_text, insert_text}
use Rattle.sql_spelling.specs.Meant.{created, inserted, literal_of}
use Rattle.store_dump.specs.Dump.{commit_text, dump_text}

-- ---- values

-- a value of a column, whose bytes are bytes, is what its literal stands for
abbrev pub ValuesComeBack : Type 0
ValuesComeBack = (params : List Value) (column : Column) (v : Value) → fits column v ≡ true → AreBytes (value_bytes column.kind v) → literal_value params (literal_of v) ≡ v

-- ---- lines

-- a statement or a COMMIT
pub data Line : Type 0 where
  Make : List ℕ → Schema → Line
  Put : List ℕ → Schema → List ℕ → Line
  Commit : Line

abbrev pub line_text : Line → List ℕ
line_text (Make name schema) = create_text name schema ++ codes ";\n"
line_text (Put name schema row) = insert_text name (values_in schema row) ++ codes ";\n"
line_text Commit = commit_text

-- behind so many rows since the last COMMIT
abbrev pub last_lines : ℕ → List Line
last_lines n = if n == 0 then [] else Commit ∷ []

abbrev pub row_lines : List ℕ → Schema → ℕ → List (List ℕ) → List Line
row_lines name schema n [] = last_lines n
row_lines name schema n (row ∷ rows) = Put name schema row ∷ (if n + 1 == 256 then Commit ∷ row_lines name schema 0 rows else row_lines name schema (n + 1) rows)

abbrev pub table_lines : List ℕ × Table → List Line
table_lines e = Make e.0 e.1.schema ∷ Commit ∷ row_lines e.0 e.1.schema 0 (values_of e.1.rows)

abbrev pub lines_of : Store → List Line
lines_of store = flat_map table_lines store

abbrev pub TextsAreStatements : Type 0
TextsAreStatements = (store : Store) → dump_text store ≡ flat_map line_text (lines_of store)

-- ---- what they make

-- the statement of a line
abbrev pub statement_of : Line → Option Command
statement_of (Make name schema) = Some (created name schema)
statement_of (Put name schema row) = Some (inserted name (values_in schema row))
statement_of Commit = None

-- a unit of work: the committed tables, and its changes since the last COMMIT
pub record At : Type 0 where
  pub store : Store
  pub changes : List Change

abbrev pub begun : Store → At
begun store = record { store = store; changes = [] }

-- the tables that it sees, which have its own changes
abbrev pub seen : At → Store
seen at = apply_all at.changes at.store

-- how many bytes of changes are left to it, of 1,048,576
abbrev pub left_in : At → ℕ
left_in at = 1048576 - length (flat_map change_bytes at.changes)

-- the unit behind a statement that was done; one that was refused ends all
abbrev pub done : Answer → At → Option At
done (Changes changes n) at = Some (record { store = at.store; changes = at.changes ++ changes })
done (Refused fault) at = None
done (Rows rows) at = None

abbrev pub asked_by : Option Command → At → Option At
asked_by (Some c) at = done (meaning [] (left_in at) c (seen at)) at
asked_by None at = Some (begun (seen at))

-- lines, asked one after another
abbrev pub asked : List Line → At → Option At
asked [] at = Some at
asked (line ∷ lines) at = option_and_then (asked lines) (asked_by (statement_of line) at)

-- the rows of all tables are bytes
abbrev pub HaveBytes : Store → Type 0
HaveBytes store = AllByRecursion (λ (e : List ℕ × Table). AllByRecursion AreBytes (values_of e.1.rows)) store

-- asked in their order of a store without tables, the lines of a store are all done, its statements within the changes
-- that a unit may have, and what is committed is the store; it has at most 1,000 tables
abbrev pub DumpsRestore : Type 0
DumpsRestore = (store : Store) → is_store store ≡ true → HaveBytes store → length store ≤ 1000 → asked (lines_of store) (begun []) ≡ Some (begun store)
