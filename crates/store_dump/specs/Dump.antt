-- The text of a store: the statements that make it, each on a line of its own, with COMMITs that keep each unit small.
use Rattle.std.specs.Prelude.{◌≡◌, ℕ, ◌+◌, ◌==◌, if◌then◌else◌, List, [], ◌∷◌, ◌++◌, codes, length, Option, Result, Ok, Err}
use Rattle.std.specs.Fmt.{decimal}
use Rattle.std.specs.Io.KnownBytes.{Appends}
use Rattle.std.specs.List.{flat_map}
use Rattle.row_pages.specs.Laying.{counted, laid}
use Rattle.std.specs.Map.{values_of}
use Rattle.row_values.specs.Schema.{Schema}
use Rattle.row_values.specs.Row.{values_in}
use Rattle.tables.specs.Tables.{Store}
use Rattle.sql_spelling.specs.Text.{create_text, insert_text}

abbrev pub commit_text : List ℕ
commit_text = codes "COMMIT;\n"

-- how many rows were written since the last COMMIT, with one more: there is one behind every 256th row
abbrev pub since_commit : ℕ → ℕ
since_commit n = if n + 1 == 256 then 0 else n + 1

abbrev pub unit_end : ℕ → List ℕ
unit_end n = if n + 1 == 256 then commit_text else []

-- the INSERT of a row, behind so many rows since the last COMMIT, and the COMMIT that is due
abbrev pub row_line : List ℕ → Schema → ℕ → List ℕ → List ℕ
row_line name schema n row = insert_text name (values_in schema row) ++ (codes ";\n" ++ unit_end n)

-- the COMMIT behind the last row, where one is due
abbrev pub last_commit : ℕ → List ℕ
last_commit n = if n == 0 then [] else commit_text

-- the INSERTs of rows
abbrev pub rows_text : List ℕ → Schema → ℕ → List (List ℕ) → List ℕ
rows_text name schema n [] = last_commit n
rows_text name schema n (row ∷ rows) = row_line name schema n row ++ rows_text name schema (since_commit n) rows

-- the CREATE TABLE of a table
abbrev pub table_line : List ℕ → Schema → List ℕ
table_line name schema = create_text name schema ++ codes ";\nCOMMIT;\n"

abbrev pub table_text : List ℕ → Schema → List (List ℕ) → List ℕ
table_text name schema rows = table_line name schema ++ rows_text name schema 0 rows

-- what is told of a table: its CREATE TABLE, and in a comment how many rows it has, and how many pages these take at the next checkpoint
abbrev pub shown_comment : ℕ → ℕ → List ℕ
shown_comment rows pages = codes ";\n-- " ++ decimal rows ++ codes " rows, " ++ decimal pages ++ codes " pages\n"

abbrev pub shown_line : List ℕ → Schema → ℕ → ℕ → List ℕ
shown_line name schema rows pages = create_text name schema ++ shown_comment rows pages

abbrev pub shown_table : List ℕ → Schema → List (List ℕ) → List ℕ
shown_table name schema rows = shown_line name schema (counted (length rows)) (counted (length (laid rows)))

-- the tables of a store, in the order of their names
abbrev pub list_text : Store → List ℕ
list_text store = flat_map (λ e. shown_table e.0 e.1.schema (values_of e.1.rows)) store

-- the tables of a store, in the order of their names, each with its rows in the order of their keys
abbrev pub dump_text : Store → List ℕ
dump_text store = flat_map (λ e. table_text e.0 e.1.schema (values_of e.1.rows)) store

-- ---- writing

-- a front of a text is appended
pub record HasFront (text : List ℕ) (before now : Option (List ℕ)) : Type 0 where
  pub front : List ℕ
  pub rest : List ℕ
  pub both : text ≡ front ++ rest
  pub wrote : Appends before now front

-- a text is appended, or on an error a front of it
abbrev pub IsWritten : {A E : Type 0} → List ℕ → Result A E → Option (List ℕ) → Option (List ℕ) → Type 0
IsWritten text (Ok done) before now = Appends before now text
IsWritten text (Err error) before now = HasFront text before now
