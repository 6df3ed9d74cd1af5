-- A checkpoint: the tables that the pages of a half have. The records of the half's journal follow it.
use Rattle.std.specs.Prelude.{◌≡◌, ℕ, ◌+◌, ◌*◌, true, List, [], map}
use Rattle.drda_words.specs.Place.{part}
use Rattle.drda_disk.specs.Layout.{page_bytes}
use Rattle.row_values.specs.Schema.{Schema}
use Rattle.row_values.specs.Key.{row_key}
use Rattle.key_map.specs.RowForm.{row_form}
use Rattle.row_pages.specs.Laying.{rows_over}
use Rattle.tables.specs.Tables.{Store, Table}
use Rattle.tables.specs.View.{is_store}
use Rattle.half_store.specs.Active.{Store as Opened}
use Rattle.half_store.specs.Layout.{half_len, offset_of}
use Rattle.store_check.specs.Half.{BreaksHalf, HalfPages, IsWholeHalf, KeysBySchema, TableRows}

-- the pages of a store's active half, which lie behind the half's header, in an image of this size
abbrev pub half_pages : ℕ → Opened → HalfPages
half_pages size store = record { at = offset_of (half_len size) store.half + page_bytes; count = store.header.pages; first_catalogue = store.header.first_catalogue; catalogue_pages = store.header.catalogue_pages }

-- rows lie on pages in the order of the sort forms of their keys
abbrev pub forms : KeysBySchema
forms = λ schema row. row_form schema row

-- rows by their keys
abbrev pub at_keys : Schema → List (List ℕ) → List (List ℕ × List ℕ)
at_keys schema rows = map (λ row. (row_key schema row, row)) rows

-- the table that pages have, by its name
abbrev pub table_on : TableRows → List ℕ × Table
table_on t = (t.entry.name, record { schema = t.entry.schema; rows = at_keys t.entry.schema (rows_over t.pages) })

abbrev pub store_on : List TableRows → Store
store_on tables = map table_on tables

-- the pages of a half are whole, and have these tables
pub record HasCheckpoint (image : List ℕ) (half : HalfPages) (store : Store) : Type 0 where
  pub tables : List TableRows
  pub whole : IsWholeHalf forms image half tables
  pub is : store ≡ store_on tables

-- ---- laws

-- the pages of a half have one checkpoint at most
abbrev pub OneCheckpoint : Type 0
OneCheckpoint = (image : List ℕ) (half : HalfPages) (a b : Store) → HasCheckpoint image half a → HasCheckpoint image half b → a ≡ b

-- pages with a checkpoint have no first bad one
abbrev pub CheckpointIsNotBad : Type 0
CheckpointIsNotBad = (image : List ℕ) (half : HalfPages) (store : Store) (here : ℕ) → HasCheckpoint image half store → BreaksHalf forms image half here → ⊥

-- and their tables are a store: names and keys rise, and each row is one of its table
abbrev pub CheckpointsAreStores : Type 0
CheckpointsAreStores = (image : List ℕ) (half : HalfPages) (store : Store) → HasCheckpoint image half store → is_store store ≡ true

-- each image in which the pages read the same has the same checkpoint
abbrev pub CheckpointsAreFramed : Type 0
CheckpointsAreFramed =
    (image other : List ℕ) (half : HalfPages) (store : Store)
    → part other half.at (page_bytes * half.count) ≡ part image half.at (page_bytes * half.count) → HasCheckpoint image half store → HasCheckpoint other half store

-- no pages have no tables
abbrev pub NoPagesHaveNoTables : Type 0
NoPagesHaveNoTables = (image : List ℕ) (at : ℕ) → HasCheckpoint image (record { at = at; count = 0; first_catalogue = 0; catalogue_pages = 0 }) []
