-- What a crash leaves while a checkpoint is written, and what its end leaves.
use Rattle.std.specs.Prelude.{◌≡◌, ◌⊎◌, ℕ, ◌+◌, Bool, IsTrue, List, length, Ok}
use Rattle.drda_disk.specs.Disk.{Life, Only}
use Rattle.drda_disk.specs.Region.{end_of}
use Rattle.half_store.specs.Active.{Store, active_of}
use Rattle.half_store.specs.Layout.{half_len, offset_of, other_than}
use Rattle.half_store.specs.Opened.{IsBehindPages, store_of}
use Rattle.half_store.specs.Writing.{IsKept}
use Rattle.half_store.specs.declared.header.Layout.TheVariants.{Two}
use Rattle.unit_journal.specs.Journal.{IsSettled, held_of, region_of, room_of}
use Rattle.unit_journal.specs.Record.{Entry}
use Rattle.tables.specs.Tables.{Store as Tables}
use Rattle.store_check.specs.Checkpoint.{HasCheckpoint}
use Rattle.store_check.specs.Half.{pages_of}
use Rattle.checkpoint_writer.specs.declared.ending.Switched.{Switched}
use Rattle.store_check.specs.Holds.{Holds}
use Rattle.store_check.specs.Room.{need_of}

-- The disk gives back what was written, a crash leaves what is read, and that is a store with this active half.
pub record Rests (modelled : Bool) (disk : Life) (store : Store) : Type 0 where
  pub modelled_disk : IsTrue modelled
  pub durable : Only disk
  pub active : active_of disk.seen ≡ Ok store

-- outside of the half that is not active an image is the base
abbrev pub IsOld : List ℕ → Store → List ℕ → Type 0
IsOld base store image = IsKept base store (offset_of (half_len (length base)) (other_than store.half)) (half_len (length base)) image

-- An image of the base's size has the other half as its active one, of the next generation and of layout 2, and in it these
-- tables, these records and no others, and the room for so many bytes.
pub record IsNew (base : List ℕ) (store : Store) (tables : Tables) (es : List Entry) (held : ℕ) (image : List ℕ) : Type 0 where
  pub size : length image ≡ length base
  pub new : Store
  pub name : new.name ≡ store.name
  pub half : new.half ≡ other_than store.half
  pub generation : new.header.generation ≡ store.header.generation + 1
  pub layout : new.header.layout ≡ Two
  pub holds : Holds new tables es held image

-- what a crash leaves: the old half as it was, or the new one
abbrev pub Moment : List ℕ → Store → Tables → List Entry → ℕ → List ℕ → Type 0
Moment base store tables es held image = IsOld base store image ⊎ IsNew base store tables es held image

-- The new half is there to stay, it is this one, and its journal goes on behind the records: its room is what the header, the
-- pages, the records, the bytes held back and a gate leave of the half.
pub record IsAnew (modelled : Bool) (disk : Life) (base : List ℕ) (store : Store) (tables : Tables) (es : List Entry) (held : ℕ) (s : Switched) : Type 0 where
  pub is : IsNew base store tables es held disk.seen
  pub same : is.new ≡ store_of s.active
  pub behind : IsBehindPages (half_len (length base)) s.active
  pub pages : HasCheckpoint disk.seen (pages_of s.active) tables
  pub settled : IsSettled modelled disk s.journal es
  pub begins : (region_of s.journal).at ≡ s.active.region.at
  pub ends : end_of (region_of s.journal) ≡ end_of s.active.region
  pub room : held_of s.journal ≡ held
  pub leaves : room_of s.journal + need_of tables es held ≡ half_len (length base)

-- the old half goes on: a crash leaves what is read, and that is as it was but for the other half
pub record GoesOn (disk : Life) (base : List ℕ) (store : Store) : Type 0 where
  pub durable : Only disk
  pub is : IsOld base store disk.seen

-- ---- laws

-- An image that a crash leaves while a checkpoint is written holds what the store held before, or what is written.
abbrev pub MomentsHold : Type 0
MomentsHold = (base : List ℕ) (store : Store) (tables new : Tables) (es fs : List Entry) (held more : ℕ) (image : List ℕ)
    → Holds store tables es held base → Moment base store new fs more image
    → Holds store tables es held image ⊎ IsNew base store new fs more image
