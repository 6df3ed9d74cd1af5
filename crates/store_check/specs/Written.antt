-- What was written is whole.
use Rattle.std.specs.Prelude.{◌≡◌, ◌<◌, ℕ, true, List, length, map}
use Rattle.std.specs.List.{AllByRecursion}
use Rattle.row_values.specs.Schema.{Schema}
use Rattle.row_values.specs.Row.{is_row}
use Rattle.row_pages.specs.Laying.{IsShort, laid}
use Rattle.row_pages.specs.declared.page.PageKind.TheVariants as kind
use Rattle.key_map.specs.Merging.{Rows}
use Rattle.table_map.specs.Stored.{Places}
use Rattle.table_map.specs.Table.{without_keys}
use Rattle.checkpoint_writer.specs.Catalogue.{AreEntries, Entry, rows_of}
use Rattle.checkpoint_writer.specs.Laying.{StandAt}
use Rattle.checkpoint_writer.specs.Stored.{IsImageOf}
use Rattle.store_check.specs.Whole.{IsWhole}
use Rattle.store_check.specs.Listed.{IsListing, are_listed, entries_over}
use Rattle.store_check.specs.Half.{HalfPages, IsWholeHalf, KeysBySchema, TableRows, catalogue_end, page_at, pages_over}

-- the pages into which a table's rows were written, each of them a row of the schema
abbrev pub WrittenIsWhole : Type 0
WrittenIsWhole = (schema : Schema) (key_of : List ℕ → List ℕ) (rows : Rows) (places : Places) (file : List ℕ) → IsImageOf key_of rows places file → AllByRecursion (λ row. is_row schema row ≡ true) (without_keys rows)
    → IsWhole schema key_of file places.at (length places.keys) (laid (without_keys rows))

-- the pages into which a catalogue's tables were written, with rising names and their pages one behind another
abbrev pub WrittenIsListed : Type 0
WrittenIsListed = (file : List ℕ) (at last : ℕ) (entries : List Entry) → AreEntries entries → AllByRecursion IsShort (rows_of entries) → StandAt kind.Catalogue file at (laid (rows_of entries)) → are_listed last entries ≡ true
    → (pages : List (List Entry)) × IsListing file at (length (laid (rows_of entries))) last pages × (entries_over pages ≡ entries)

-- ---- a half that was written

-- a table with its rows under their keys, and the places of its pages
pub record WrittenTable : Type 0 where
  pub entry : Entry
  pub rows : Rows
  pub places : Places

abbrev pub entries_written : List WrittenTable → List Entry
entries_written tables = map (λ t. t.entry) tables

-- its rows were written where its entry says, in a half whose first page lies here
pub record IsWritten (key_of : KeysBySchema) (file : List ℕ) (at : ℕ) (t : WrittenTable) : Type 0 where
  pub image : IsImageOf (key_of t.entry.schema) t.rows t.places file
  pub fit : AllByRecursion (λ row. is_row t.entry.schema row ≡ true) (without_keys t.rows)
  pub many : length t.places.keys ≡ t.entry.pages
  pub place : 0 < t.entry.pages → t.places.at ≡ page_at at t.entry.first_page

-- tables were written into a half one behind another, and behind them their catalogue
pub record IsWrittenHalf (key_of : KeysBySchema) (file : List ℕ) (half : HalfPages) (tables : List WrittenTable) : Type 0 where
  pub written : AllByRecursion (IsWritten key_of file half.at) tables
  pub good : AreEntries (entries_written tables)
  pub short : AllByRecursion IsShort (rows_of (entries_written tables))
  pub catalogue : StandAt kind.Catalogue file (page_at half.at half.first_catalogue) (laid (rows_of (entries_written tables)))
  pub many : length (laid (rows_of (entries_written tables))) ≡ half.catalogue_pages
  pub listed : are_listed half.first_catalogue (entries_written tables) ≡ true
  pub behind : pages_over (entries_written tables) ≡ half.first_catalogue
  pub last : catalogue_end half ≡ half.count

-- a table's rows, page by page
abbrev pub laid_table : WrittenTable → TableRows
laid_table t = record { entry = t.entry; pages = laid (without_keys t.rows) }

abbrev pub WrittenHalfIsWhole : Type 0
WrittenHalfIsWhole = (key_of : KeysBySchema) (file : List ℕ) (half : HalfPages) (tables : List WrittenTable) → IsWrittenHalf key_of file half tables → IsWholeHalf key_of file half (map laid_table tables)
