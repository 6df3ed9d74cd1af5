-- Tables over pages that are laid anew.
use Rattle.std.specs.Prelude.{◌≡◌, ℕ, ◌+◌, List, map}
use Rattle.drda_disk.specs.Layout.{page_bytes}
use Rattle.tables.specs.Tables.{Store, Table}
use Rattle.table_map.specs.Stored.{Places}
use Rattle.half_store.specs.Writing.{from_of, pages_of}
use Rattle.half_store.specs.declared.image.ImageWriter.{ImageWriter}
use Rattle.checkpoint_writer.specs.Catalogue.{Entry}
use Rattle.store_check.specs.Checkpoint.{forms}
use Rattle.store_check.specs.Written.{IsWritten}
use Rattle.paged_tables.specs.Stored.{Stored, rows_in, table_in}
use Rattle.paged_tables.specs.TablesByName.{Tables}
use Rattle.store_check.specs.Laying.{laid_at, laid_from, rows_under}
use Rattle.store_check.specs.Room.{entry_of_table, pages_of_table}

-- a table that is created, with its name
abbrev pub created_entry : List ℕ × Stored → List ℕ × Table
created_entry e = (e.0, table_in e.1)

-- the store that tables are, each of which is created
abbrev pub all_shown : Tables → Store
all_shown tables = map created_entry tables

-- its rows stand at the forms that they are laid under
abbrev pub IsUnder : List ℕ × Stored → Type 0
IsUnder e = rows_in e.1 ≡ rows_under (table_in e.1)

-- the places of tables that are laid one behind another, from the page with this number on
abbrev pub places_from : ℕ → ℕ → Store → List Places
places_from at next tables = map (λ t. t.places) (laid_from at next tables)

-- one table more was laid behind the pages of an image: its entry of the catalogue, and its pages
pub record LaysTable (file : List ℕ) (w after : ImageWriter) (e : List ℕ × Table) (entry : Entry) (pages : Places) : Type 0 where
  pub entry_is : entry ≡ entry_of_table (pages_of w) e
  pub many : pages_of after ≡ pages_of w + pages_of_table e.1
  pub written : IsWritten forms file (from_of w + page_bytes) (laid_at (from_of w + page_bytes) (pages_of w) e)
  pub places_are : pages ≡ (laid_at (from_of w + page_bytes) (pages_of w) e).places
