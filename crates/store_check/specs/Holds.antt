-- What an image holds: tables in the pages of its active half, and the records of its journal.
use Rattle.std.specs.Prelude.{◌≡◌, ◌≤◌, ℕ, ◌+◌, ◌*◌, List, length, Ok}
use Rattle.drda_disk.specs.Layout.{page_bytes}
use Rattle.half_store.specs.Active.{Store, active_of}
use Rattle.half_store.specs.Layout.{half_len, offset_of}
use Rattle.unit_journal.specs.Record.{Entry, laid}
use Rattle.unit_journal.specs.Stands.{StandsFrom}
use Rattle.tables.specs.Tables.{Store as Tables}
use Rattle.store_check.specs.Checkpoint.{HasCheckpoint, half_pages}

-- the offset of its journal, and the one behind the half
abbrev pub journal_at : ℕ → Store → ℕ
journal_at size s = offset_of (half_len size) s.half + page_bytes * (1 + s.header.pages)

abbrev pub half_end : ℕ → Store → ℕ
half_end size s = offset_of (half_len size) s.half + half_len size

-- An image of a store: the pages of its active half have these tables, its journal has these records and no others, and
-- behind them there is room for so many bytes and a gate.
pub record Holds (store : Store) (tables : Tables) (es : List Entry) (held : ℕ) (image : List ℕ) : Type 0 where
  pub active : active_of image ≡ Ok store
  pub pages : HasCheckpoint image (half_pages (length image) store) tables
  pub stands : StandsFrom (journal_at (length image) store) (half_end (length image) store) es image
  pub room : journal_at (length image) store + (length (laid es) + held + 1) ≤ half_end (length image) store
