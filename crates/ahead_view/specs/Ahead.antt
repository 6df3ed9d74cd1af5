-- What was read of the tables ahead of a statement.
use Rattle.std.specs.Prelude.{◌≡◌, ◌&&◌, ℕ, Bool, List, bytes_eq, false, true}
use Rattle.table_map.specs.Keyed.{copied}
use Rattle.tables.specs.Tables.{Store, row_of, rows_of, schema_of}
use Rattle.paged_tables.specs.Judged.{may_be_row, may_be_rows}
use Rattle.ahead_view.specs.declared.reading.ReadAhead.{ReadAhead}
use Rattle.ahead_view.specs.declared.reading.ReadAhead.TheVariants.{Nothing, Row, Rows}

-- what was read is what the store has
abbrev pub WasRead : Store → ReadAhead → Type 0
WasRead store Nothing = Unit {0}
WasRead store (Row table key row) = copied row ≡ row_of store table.now key.now
WasRead store (Rows table rows) = rows ≡ rows_of store table.now

-- the row of this key in the table of this name was read
abbrev pub is_row_read : List ℕ → List ℕ → ReadAhead → Bool
is_row_read name place Nothing = false
is_row_read name place (Row table key row) = bytes_eq table.now name && bytes_eq key.now place
is_row_read name place (Rows table rows) = false

-- all rows of the table of this name were read
abbrev pub are_read : List ℕ → ReadAhead → Bool
are_read name Nothing = false
are_read name (Row table key row) = false
are_read name (Rows table rows) = bytes_eq table.now name

-- what was read may be rows of the store's tables
abbrev pub may_be_read : Store → ReadAhead → Bool
may_be_read store Nothing = true
may_be_read store (Row table key row) = may_be_row (schema_of store table.now) (copied row) key.now
may_be_read store (Rows table rows) = may_be_rows (schema_of store table.now) rows
