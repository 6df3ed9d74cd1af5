-- Tables whose pages lie apart from the half that is written.
use Rattle.std.specs.Prelude.{◌≤◌, ℕ, ◌+◌, ◌*◌, Bool, IsTrue, List, length}
use Rattle.drda_disk.specs.Layout.{page_bytes}
use Rattle.half_store.specs.Active.{Store}
use Rattle.half_store.specs.Layout.{half_len, offset_of, other_than}
use Rattle.half_store.specs.Writing.{from_of}
use Rattle.half_store.specs.declared.image.ImageWriter.{ImageWriter}
use Rattle.checkpoint_writer.specs.Adding.{end_of_half}
use Rattle.table_map.specs.Stored.{Places}
use Rattle.paged_tables.specs.Stored.{IsOnPages, LiesOutside, Stored}
use Rattle.paged_tables.specs.TablesByName.{AreOnPages, LieOutside, Tables}
use Rattle.store_check.specs.Half.{HalfPages, page_at}

-- the offset of a store's half that is not active, in an image of this size
abbrev pub other_half : ℕ → Store → ℕ
other_half size store = offset_of (half_len size) (other_than store.half)

-- The pages of all tables stand in an image of a store, with their rows, outside of the half that is not active; and the
-- disk gives back what was written.
pub record StandApart (modelled : Bool) (image : List ℕ) (store : Store) (tables : Tables) : Type 0 where
  pub modelled_disk : IsTrue modelled
  pub stand : AreOnPages image tables
  pub apart : LieOutside (other_half (length image) store) (other_half (length image) store + half_len (length image)) tables

-- pages lie from an offset on, up to another one
pub record LiesFrom (from end : ℕ) (places : Places) : Type 0 where
  pub first : from ≤ places.at
  pub last : places.at + page_bytes * length places.keys ≤ end

-- pages lie among those of a half
abbrev pub LiesAmong : HalfPages → Places → Type 0
LiesAmong half places = LiesFrom half.at (page_at half.at half.count) places

-- ---- while the other half is written

-- a table's pages can be read with its rows: they stand in what the disk reads, outside of the half that is written
pub record IsReadable (modelled : Bool) (file : List ℕ) (w : ImageWriter) (t : Stored) : Type 0 where
  pub modelled_disk : IsTrue modelled
  pub stand : IsOnPages file t
  pub apart : LiesOutside (from_of w) (end_of_half w) t

-- those of all tables can
pub record AreReadable (modelled : Bool) (file : List ℕ) (w : ImageWriter) (tables : Tables) : Type 0 where
  pub modelled_disk : IsTrue modelled
  pub stand : AreOnPages file tables
  pub apart : LieOutside (from_of w) (end_of_half w) tables
