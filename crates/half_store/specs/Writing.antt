-- Writing the half that is not active.
use Rattle.std.specs.Prelude.{◌≡◌, ◌≢◌, ◌⊎◌, ℕ, ◌+◌, ◌-◌, ◌*◌, ◌^◌, ◌<◌, ◌≤◌, Bool, IsTrue, List, length, slice_index, OnErr, OnOk, Result, Ok, Err}
use Rattle.drda_disk.specs.Disk.{Life, Torn, Within}
use Rattle.drda_disk.specs.Errors.{OnFull}
use Rattle.drda_disk.specs.declared.errors.DiskError.{DiskError}
use Rattle.drda_disk.specs.declared.errors.DiskError.TheVariants as disk
use Rattle.drda_disk.specs.declared.errors.WriteError.{WriteError}
use Rattle.drda_disk.specs.declared.errors.WriteError.TheVariants as write
use Rattle.drda_disk.specs.Layout.{open_gate, page_bytes}
use Rattle.half_store.specs.Layout.{half_len, offset_of, other_than}
use Rattle.half_store.specs.Active.{Store, active_of}
use Rattle.half_store.specs.declared.layout.Half.{Half}
use Rattle.half_store.specs.declared.image.ImageWriter.{ImageWriter}

-- the half that is written, and how many bytes it has
abbrev pub half_of : ImageWriter → Half
half_of w = w.half

abbrev pub half_bytes_of : ImageWriter → ℕ
half_bytes_of w = w.half_bytes

-- the generation that it will have
abbrev pub generation_of : ImageWriter → ℕ
generation_of w = w.generation

-- how many pages were written
abbrev pub pages_of : ImageWriter → ℕ
pages_of w = w.pages

-- the half's offset, and that of the next page
abbrev pub from_of : ImageWriter → ℕ
from_of w = offset_of w.half_bytes w.half

abbrev pub next_of : ImageWriter → ℕ
next_of w = from_of w + page_bytes * (1 + w.pages)

-- An image has this store's active half, and outside of n bytes from an offset on it is another image.
pub record IsKept (base : List ℕ) (store : Store) (at n : ℕ) (image : List ℕ) : Type 0 where
  pub active : active_of image ≡ Ok store
  pub others : Torn at n base image

-- An image without pages is written, in a half that lies on a disk of this size.
pub record IsEmpty (size : ℕ) (w : ImageWriter) : Type 0 where
  pub none : pages_of w ≡ 0
  pub inside : from_of w + half_bytes_of w ≤ size

-- Each image is the base but for the half that is written, behind its closed gate; the base is a store, whose
-- active half is the other one.
pub record IsWriting (modelled : Bool) (disk : Life) (base : List ℕ) (store : Store) (w : ImageWriter) : Type 0 where
  pub modelled_disk : IsTrue modelled
  pub within : Within (from_of w + 1) (half_bytes_of w - 1) base disk
  pub active : active_of base ≡ Ok store
  pub other : half_of w ≡ other_than store.half
  pub shut : slice_index base (from_of w) ≢ open_gate
  pub halves : half_bytes_of w ≡ half_len (length base)
  pub generation : generation_of w ≡ store.header.generation + 1

-- a byte is left, or it is torn where it was A5
abbrev pub IsClosing : ℕ → List ℕ → List ℕ → Type 0
IsClosing at file image = (image ≡ file) ⊎ ((slice_index file at ≡ open_gate) × Torn at 1 file image)

-- no memory is told exactly at the last generation
abbrev pub SaysLast : {T : Type 0} → Result T DiskError → ℕ → Type 0
SaysLast (Ok x) generation = generation < 2 ^ 64 - 1
SaysLast (Err disk.NoMemory) generation = generation ≡ 2 ^ 64 - 1
SaysLast (Err disk.DeviceFailed) generation = generation < 2 ^ 64 - 1

-- a page more does not fit, with a byte for a gate behind it, exactly where that is told
abbrev pub SaysFull : {T : Type 0} → Result T WriteError → ℕ → ℕ → Type 0
SaysFull (Ok x) need room = need ≤ room
SaysFull (Err write.DeviceFailed) need room = need ≤ room
SaysFull (Err (write.Full full)) need room = (full.need ≡ need) × (full.room ≡ room) × (room < need)

-- The same half is written, of the same generation; it has a page more, or none where the opposite is told.
pub record GoesOn {T : Type 0} (result : Result T WriteError) (w after : ImageWriter) : Type 0 where
  pub half : half_of after ≡ half_of w
  pub half_bytes : half_bytes_of after ≡ half_bytes_of w
  pub generation : generation_of after ≡ generation_of w
  pub more : OnOk result (pages_of after ≡ pages_of w + 1)
  pub still : OnErr result (after ≡ w)

-- That there is no room for a page more is told exactly where there is none, and before anything is written.
pub record TellsPage {T : Type 0} (result : Result T WriteError) (w : ImageWriter) (Unwritten : Type 0) : Type 0 where
  pub full : SaysFull result (page_bytes * (2 + pages_of w) + 1) (half_bytes_of w)
  pub unwritten : OnFull result Unwritten
