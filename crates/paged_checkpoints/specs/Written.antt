-- What is known of a checkpoint that is written.
use Rattle.std.specs.Prelude.{◌≡◌, ◌⊎◌, ◌≤◌, ℕ, ◌+◌, ◌*◌, Bool, true, List, length, map, Result}
use Rattle.std.specs.List.{AllByRecursion}
use Rattle.drda_disk.specs.Disk.{Life}
use Rattle.drda_disk.specs.Region.{end_of}
use Rattle.drda_disk.specs.Layout.{page_bytes}
use Rattle.half_store.specs.Active.{Store}
use Rattle.half_store.specs.Writing.{from_of, half_bytes_of, next_of, pages_of}
use Rattle.half_store.specs.declared.image.ImageWriter.{ImageWriter}
use Rattle.tables.specs.Tables.{Store as Shown}
use Rattle.tables.specs.View.{is_store}
use Rattle.unit_journal.specs.Journal.{held_of, region_of}
use Rattle.unit_journal.specs.Record.{Entry}
use Rattle.checkpoint_writer.specs.Adding.{AreLast}
use Rattle.checkpoint_writer.specs.Catalogue.{HaveNames, place_of}
use Rattle.checkpoint_writer.specs.Errors.{DamagedWhere, TellsFull}
use Rattle.checkpoint_writer.specs.declared.errors.ImageError.{ImageError}
use Rattle.store_check.specs.Checkpoint.{HasCheckpoint, forms}
use Rattle.store_check.specs.Half.{pages_of as pages_of_active}
use Rattle.store_check.specs.Written.{IsWritten}
use Rattle.store_check.specs.Laying.{laid_from, pages_with}
use Rattle.store_check.specs.Moment.{IsAnew}
use Rattle.store_check.specs.Room.{OnFull, SaysRoom, TellsRoom, entries_from, pages_of_catalogue, pages_of_tables}
use Rattle.paged_tables.specs.PagedTables.{store_in}
use Rattle.paged_tables.specs.Stored.{IsOnPages, LiesInside, LiesOutside}
use Rattle.paged_tables.specs.TablesByName.{AreLaid, LieInside, Tables, created_of}
use Rattle.paged_tables.specs.declared.store.PagedTables.{PagedTables}
use Rattle.paged_checkpoints.specs.Apart.{LiesAmong, LiesFrom}
use Rattle.paged_checkpoints.specs.Laying.{IsUnder, all_shown, places_from}
use Rattle.paged_checkpoints.specs.declared.pages.WrittenPages.{WrittenPages}
use Rattle.paged_checkpoints.specs.declared.table_pages.LaidTable.{LaidTable}
use Rattle.paged_checkpoints.specs.declared.table_pages.LaidTables.{LaidTables}
use Rattle.paged_checkpoints.specs.declared.writing.Relaid.{Relaid}

-- an image without pages is begun on a disk of this size, on which these tables' pages lie; and the tables are a store
pub record IsBegun (size : ℕ) (w : ImageWriter) (tables : Tables) : Type 0 where
  pub none : pages_of w ≡ 0
  pub inside : from_of w + half_bytes_of w ≤ size
  pub lie : LieInside size tables
  pub store : is_store (all_shown tables) ≡ true

-- ---- the pages

-- a table of this name was laid behind the pages of an image, of any device
pub record IsLast (w after : ImageWriter) (name : List ℕ) (laid : LaidTable) : Type 0 where
  pub name_is : (place_of laid.place).name ≡ name
  pub pages : AreLast w after laid.pages

-- Tables were laid behind the pages of an image, of any device: their names are good ones, their rows stand at the forms
-- that they are laid under, and for each there is a list of the pages that were added.
pub record AreListed (w after : ImageWriter) (tables : Tables) (laid : LaidTables) : Type 0 where
  pub names : HaveNames (map place_of laid.places.items)
  pub under : AllByRecursion IsUnder tables
  pub lie : AllByRecursion (LiesFrom (next_of w) (next_of after)) laid.pages.items
  pub count : length laid.pages.items ≡ length tables

-- where their pages could be read, each has all of its rows there, one table behind another
pub record AreWritten (file : List ℕ) (w after : ImageWriter) (tables : Tables) (laid : LaidTables) : Type 0 where
  pub places : map place_of laid.places.items ≡ entries_from 0 (all_shown tables)
  pub pages : pages_of after ≡ pages_of_tables (all_shown tables)
  pub lists : laid.pages.items ≡ places_from (from_of w + page_bytes) 0 (all_shown tables)
  pub written : AllByRecursion (IsWritten forms file (from_of w + page_bytes)) (laid_from (from_of w + page_bytes) 0 (all_shown tables))

-- the same with their catalogue behind them, of any device
pub record AreIn (after : ImageWriter) (tables : Tables) (written : WrittenPages) : Type 0 where
  pub first : written.first_catalogue ≤ pages_of after
  pub lie : AllByRecursion (LiesFrom (from_of after + page_bytes) (next_of after)) written.pages.items
  pub count : length written.pages.items ≡ length tables

-- and where the tables' pages could be read
pub record HaveAll (file : List ℕ) (after : ImageWriter) (tables : Tables) (written : WrittenPages) : Type 0 where
  pub checkpoint : HasCheckpoint file (pages_with after written.first_catalogue) (all_shown tables)
  pub stand : AreLaid (IsOnPages file) written.pages.items tables
  pub pages : pages_of after ≡ pages_of_tables (all_shown tables) + pages_of_catalogue (all_shown tables)

-- that there is no room is told only where pages up to an offset have none, and damage never
pub record TellsPages {T : Type 0} (result : Result T ImageError) (end pages_end : ℕ) : Type 0 where
  pub full : TellsFull result end pages_end
  pub damaged : DamagedWhere ⊥ result

-- ---- the half

-- An image became the active half, of any device: for each table there is a list of pages among the half's, which end in
-- front of its journal, and so many bytes are held back in that.
pub record IsLaidIn (w : ImageWriter) (tables : Tables) (held : ℕ) (r : Relaid) : Type 0 where
  pub count : length r.pages.items ≡ length tables
  pub among : AllByRecursion (LiesAmong (pages_of_active r.switched.active)) r.pages.items
  pub pages : page_bytes * r.switched.active.pages ≤ r.switched.active.region.at
  pub front : r.switched.active.region.at ≤ from_of w + half_bytes_of w
  pub held_back : held_of r.switched.journal ≡ held
  pub ends : end_of (region_of r.switched.journal) ≡ from_of w + half_bytes_of w

-- A half became active on a disk of this size, of any device: for each table that is created there is a list of pages
-- among the half's. They end in front of its journal, in which so many bytes are held back, and lie outside of what ends in
-- front of its pages or begins behind them.
pub record IsLaidAnew (tables : PagedTables) (held size : ℕ) (r : Relaid) : Type 0 where
  pub count : length r.pages.items ≡ length (store_in tables)
  pub inside_half : AreLaid (LiesInside r.switched.active.region.at) r.pages.items (created_of tables.tables)
  pub apart : (from end : ℕ) → (r.switched.active.region.at ≤ from) ⊎ (end + page_bytes * r.switched.active.pages ≤ r.switched.active.region.at) → AreLaid (LiesOutside from end) r.pages.items (created_of tables.tables)
  pub among : AllByRecursion (LiesAmong (pages_of_active r.switched.active)) r.pages.items
  pub pages : page_bytes * r.switched.active.pages ≤ r.switched.active.region.at
  pub front : r.switched.active.region.at ≤ size
  pub held_back : held_of r.switched.journal ≡ held
  pub inside : end_of (region_of r.switched.journal) ≤ size

-- the new half has these tables and records, and the tables' pages stand there with their rows
pub record StandsAnew (modelled : Bool) (disk : Life) (base : List ℕ) (store : Store) (shown : Shown) (tables : Tables) (es : List Entry) (held : ℕ) (r : Relaid) : Type 0 where
  pub anew : IsAnew modelled disk base store shown es held r.switched
  pub stand : AreLaid (IsOnPages disk.seen) r.pages.items tables

-- ---- room, where the tables' pages stand

-- all of it fits where it was written; that it has no room is told only where it has none, and damage never
pub record TellsWriting {T : Type 0} (result : Result T ImageError) (need room : ℕ) : Type 0 where
  pub full : TellsRoom result need room
  pub damaged : DamagedWhere ⊥ result

-- that it has no room is told exactly where it has none, and before anything is written; damage never
pub record TellsExactly {T : Type 0} (result : Result T ImageError) (need room : ℕ) (Unwritten : Type 0) : Type 0 where
  pub full : SaysRoom result need room
  pub unwritten : OnFull result Unwritten
  pub damaged : DamagedWhere ⊥ result
