-- The room that a checkpoint takes in a half.
use Rattle.std.specs.Prelude.{◌≡◌, ◌≤◌, ◌<◌, ℕ, ◌+◌, ◌*◌, ◌==◌, List, [], ◌∷◌, length, Result, Ok, Err, if◌then◌else◌}
use Rattle.std.specs.Map.{values_of}
use Rattle.drda_disk.specs.Layout.{page_bytes}
use Rattle.tables.specs.Tables.{Store, Table}
use Rattle.row_pages.specs.Laying.{counted, laid}
use Rattle.unit_journal.specs.Record.{laid as laid_records}
use Rattle.unit_journal.specs.Record.{Entry as JournalEntry}
use Rattle.checkpoint_writer.specs.Catalogue.{Entry, rows_of}
use Rattle.checkpoint_writer.specs.declared.errors.ImageError.{ImageError}
use Rattle.checkpoint_writer.specs.declared.errors.ImageError.TheVariants.{Full}

-- how many pages the rows of a table take
abbrev pub pages_of_table : Table → ℕ
pages_of_table t = length (laid (values_of t.rows))

abbrev pub pages_of_tables : Store → ℕ
pages_of_tables [] = 0
pages_of_tables (e ∷ es) = pages_of_table e.1 + pages_of_tables es

-- a table in the catalogue, where the pages of those in front of it end at this one
abbrev pub entry_of_table : ℕ → List ℕ × Table → Entry
entry_of_table next e = record { name = e.0; schema = e.1.schema; first_page = if pages_of_table e.1 == 0 then 0 else next; pages = pages_of_table e.1 }

-- the pages of each table lie behind those of the tables in front of it, the first ones from this page on
abbrev pub entries_from : ℕ → Store → List Entry
entries_from next [] = []
entries_from next (e ∷ es) = entry_of_table next e ∷ entries_from (next + pages_of_table e.1) es

abbrev pub pages_of_catalogue : Store → ℕ
pages_of_catalogue tables = length (laid (rows_of (entries_from 0 tables)))

-- the bytes of a half with these tables, these records and so many bytes held back: the page of its header, the pages of
-- the tables and of their catalogue, the records, and a gate
abbrev pub need_of : Store → List JournalEntry → ℕ → ℕ
need_of tables es held = page_bytes * (1 + pages_of_tables tables + pages_of_catalogue tables) + (length (laid_records es) + held + 1)

-- All of it fits where it was written. That there is no room is told only where it does not fit; what is told to be
-- lacking is no more than what lacks.
abbrev pub TellsRoom : {T : Type 0} → Result T ImageError → ℕ → ℕ → Type 0
TellsRoom (Ok x) need room = need ≤ room
TellsRoom (Err (Full full)) need room = (full.room < full.need) × (full.need + room ≤ need + full.room)
TellsRoom (Err other) need room = Unit {0}

-- That there is no room is told exactly where it does not fit, with the bytes that are needed, up to the greatest number of
-- 64 bits, and those that there are.
abbrev pub SaysRoom : {T : Type 0} → Result T ImageError → ℕ → ℕ → Type 0
SaysRoom (Ok x) need room = need ≤ room
SaysRoom (Err (Full full)) need room = (room < need) × (full.need ≡ counted need) × (full.room ≡ room)
SaysRoom (Err other) need room = Unit {0}

-- what holds where that is told
abbrev pub OnFull : {T : Type 0} → Result T ImageError → Type 0 → Type 0
OnFull (Err (Full full)) P = P
OnFull other P = Unit {0}
