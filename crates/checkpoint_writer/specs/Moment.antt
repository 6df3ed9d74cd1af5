-- What a crash leaves while an image becomes the active half.
use Rattle.std.specs.Prelude.{◌≡◌, ◌⊎◌, ◌≤◌, ◌<◌, ℕ, ◌+◌, ◌*◌, Bool, List, length, Result, Ok, Err}
use Rattle.drda_words.specs.Place.{part}
use Rattle.drda_disk.specs.Disk.{Life}
use Rattle.drda_disk.specs.Region.{end_of}
use Rattle.drda_disk.specs.Layout.{page_bytes}
use Rattle.unit_journal.specs.Journal.{IsSettled, held_of, region_of}
use Rattle.unit_journal.specs.Record.{Entry, laid}
use Rattle.unit_journal.specs.Stands.{StandsFrom}
use Rattle.half_store.specs.Active.{Store, active_of}
use Rattle.half_store.specs.Opened.{IsBehindPages, store_of}
use Rattle.half_store.specs.Switching.{switched}
use Rattle.half_store.specs.Writing.{IsKept, from_of, half_bytes_of, next_of, pages_of}
use Rattle.half_store.specs.declared.image.ImageWriter.{ImageWriter}
use Rattle.checkpoint_writer.specs.Errors.{DamagedWhere}
use Rattle.checkpoint_writer.specs.declared.ending.Switched.{Switched}
use Rattle.checkpoint_writer.specs.declared.errors.ImageError.{ImageError}
use Rattle.checkpoint_writer.specs.declared.errors.ImageError.TheVariants.{DeviceFailed, Full}

-- so many bytes and a gate fit behind the pages of an image
abbrev pub FitBehind : ImageWriter → ℕ → Type 0
FitBehind w n = page_bytes * (1 + pages_of w) + (n + 1) ≤ half_bytes_of w

-- the bytes of the pages that were written into an image
abbrev pub pages_in : List ℕ → ImageWriter → List ℕ
pages_in file w = part file (from_of w + page_bytes) (page_bytes * pages_of w)

-- an image has the new half: its pages as they were read, behind them just these records, and room for so many bytes
pub record IsNew (file : List ℕ) (new : Store) (w : ImageWriter) (es : List Entry) (held : ℕ) (image : List ℕ) : Type 0 where
  pub size : length image ≡ length file
  pub active : active_of image ≡ Ok new
  pub pages : pages_in image w ≡ pages_in file w
  pub stands : StandsFrom (next_of w) (from_of w + half_bytes_of w) es image
  pub room : FitBehind w (length (laid es) + held)

-- the old half, and nothing outside of the other one has changed; or the new one
abbrev pub Moment : List ℕ → List ℕ → Store → ImageWriter → ℕ → ℕ → List Entry → ℕ → List ℕ → Type 0
Moment base file store w first catalogue es held image =
    IsKept base store (from_of w) (half_bytes_of w) image ⊎ IsNew file (switched store w first catalogue) w es held image

-- the new half is there to stay, and its journal goes on behind the records
pub record IsSwitched (modelled : Bool) (disk : Life) (file : List ℕ) (new : Store) (w : ImageWriter) (s : Switched) (es : List Entry) (held : ℕ) : Type 0 where
  pub settled : IsSettled modelled disk s.journal es
  pub is : IsNew file new w es held disk.seen
  pub begins : (region_of s.journal).at ≡ next_of w
  pub ends : end_of (region_of s.journal) ≡ from_of w + half_bytes_of w

-- its journal's region is what is left of the half behind its pages
abbrev pub IsBehind : ImageWriter → Switched → Type 0
IsBehind w s = IsBehindPages (half_bytes_of w) s.active

-- Of any device: the active half is this one, its journal's region is what is left of it behind the image's pages, and so
-- many bytes are held back there.
pub record IsActive (w : ImageWriter) (new : Store) (held : ℕ) (s : Switched) : Type 0 where
  pub store : store_of s.active ≡ new
  pub behind : IsBehind w s
  pub held_back : held_of s.journal ≡ held
  pub ends : end_of (region_of s.journal) ≡ from_of w + half_bytes_of w

-- what holds where nothing was switched and the device did not fail
abbrev pub OnRefused : {T : Type 0} → Result T ImageError → Type 0 → Type 0
OnRefused (Ok x) P = Unit {0}
OnRefused (Err DeviceFailed) P = Unit {0}
OnRefused (Err other) P = P

-- So many bytes fit behind the pages but where the opposite is told; what is told to be lacking is no more than what lacks.
abbrev pub SaysFull : {T : Type 0} → Result T ImageError → ImageWriter → ℕ → Type 0
SaysFull (Err (Full full)) w n = (full.room < full.need) × (half_bytes_of w + full.need ≤ page_bytes * (1 + pages_of w) + (n + 1) + full.room)
SaysFull other w n = FitBehind w n

-- what is told of room for so many bytes behind the pages; damage never is
pub record TellsEnd {T : Type 0} (result : Result T ImageError) (w : ImageWriter) (n : ℕ) : Type 0 where
  pub full : SaysFull result w n
  pub damaged : DamagedWhere ⊥ result
