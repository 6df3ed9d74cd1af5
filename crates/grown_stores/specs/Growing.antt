-- A store that is moved into a larger disk.
use Rattle.std.specs.Prelude.{◌≡◌, ◌⊎◌, ◌<◌, ◌≤◌, ℕ, ◌+◌, ◌^◌, Bool, IsTrue, List, length, slice_index, codes, Option, None, Some, Result, Ok, Err}
use Rattle.std.specs.Io.KnownBytes.{Appends}
use Rattle.drda_words.specs.Place.{part}
use Rattle.drda_disk.specs.Disk.{LeavesOnly, Life, Only, Stays}
use Rattle.drda_disk.specs.Layout.{page_bytes}
use Rattle.half_store.specs.Active.{Store, active_of, not_a_store}
use Rattle.half_store.specs.Layout.{half_len, offset_of}
use Rattle.half_store.specs.declared.layout.Half.TheVariants.{First}
use Rattle.recovery.specs.Durable.{Durable}
use Rattle.recovery.specs.Opens.{OpensTo}
use Rattle.store_files.specs.Files.{FileCalls}
use Rattle.store_files.specs.Opening.{OpensStore}
use Rattle.store_files.specs.declared.fault.Fault.{Fault}
use Rattle.store_files.specs.declared.fault.Fault.TheVariants.{Device, NoRoom}

-- The first half of the new image is its active one, of the same name and with the same header, and begins with all bytes of the half
-- that is the active one of the old image.
pub record IsGrown (old new : List ℕ) : Type 0 where
  pub store : Store
  pub was : active_of old ≡ Ok store
  pub is : active_of new ≡ Ok (record store { half = First })
  pub wider : half_len (length old) ≤ half_len (length new)
  pub inside : page_bytes + half_len (length new) ≤ length new
  pub small : length new < 2 ^ 64
  pub same : part new page_bytes (half_len (length old)) ≡ part old (offset_of (half_len (length old)) store.half) (half_len (length old))

-- what an image opens to, the other one opens to
abbrev pub OpensAlike : List ℕ → List ℕ → Type 0
OpensAlike old image = (name : List ℕ) (d : Durable) → OpensTo name d old → OpensTo name d image

-- what a crash leaves of a disk while a store is moved there
abbrev pub IsNoneOrGrown : List ℕ → List ℕ → Type 0
IsNoneOrGrown old image = (active_of image ≡ Err not_a_store) ⊎ IsGrown old image

abbrev pub IsNoneOrAlike : List ℕ → List ℕ → Type 0
IsNoneOrAlike old image = (active_of image ≡ Err not_a_store) ⊎ OpensAlike old image

-- ---- all of it but the mark

-- so many bytes fit in front of the second half, which begins in a disk of this size, and the head in front of them
pub record HasRoom (count second_at head size : ℕ) : Type 0 where
  pub count_fits : page_bytes + count ≤ second_at
  pub second_inside : second_at < size
  pub head_fits : 8 + head ≤ page_bytes

-- So many bytes of the old image stand in the first half, the head behind the place of the mark, and the second half's gate is
-- closed; each where the disks that it is of give back what was written.
pub record IsMoved (one other : Bool) (old : List ℕ) (from count : ℕ) (head : List ℕ) (second_at : ℕ) (new : List ℕ) : Type 0 where
  pub copied : IsTrue one → IsTrue other → part new page_bytes count ≡ part old from count
  pub head_there : IsTrue other → part new 8 (length head) ≡ head
  pub gate_shut : IsTrue other → slice_index new second_at ≡ 0

-- ---- the law

-- a store that was moved opens to the same name, tables and units in doubt
abbrev pub GrownStoresOpen : Type 0
GrownStoresOpen = (old new : List ℕ) → IsGrown old new → OpensAlike old new

-- ---- in files

module _ {F D : Type 0} (modelled : Bool) (life : D → Life) (calls : FileCalls F D) where
  -- The store of a path was moved into a new file, which has so many bytes and opens to all that the store opens to; a crash on the way left
  -- no store there, or the whole of it. The old file was not written.
  pub record IsGrownFile (files : F) (path new : List ℕ) (size : ℕ) (files' : F) : Type 0 where
    pub disk : D
    pub mid : F
    pub opened : calls.opens files path (Some disk) mid
    pub old : D
    pub unwritten : Stays (life disk) (life old)
    pub made : D
    pub created : calls.creates mid new size (Some made) files'
    pub left : D
    pub only : IsTrue modelled → Only (life left)
    pub sized : IsTrue modelled → length (life left).seen ≡ size
    pub alike : IsTrue modelled → OpensAlike (life disk).seen (life left).seen
    pub moments : IsTrue modelled → LeavesOnly (life made) (life left) (IsNoneOrAlike (life disk).seen)

  -- A new file was made for the store of a disk, and is taken away again; a crash on the way left no store there, or the whole of it. The old
  -- file was not written.
  pub record IsTakenAway (disk : D) (files : F) (new : List ℕ) (size : ℕ) (files' : F) : Type 0 where
    pub old : D
    pub unwritten : Stays (life disk) (life old)
    pub made : D
    pub mid : F
    pub created : calls.creates files new size (Some made) mid
    pub left : D
    pub moments : IsTrue modelled → LeavesOnly (life made) (life left) (IsNoneOrAlike (life disk).seen)
    pub removed : calls.discards mid new files'

  -- the store of the path was not opened, or has no room in so many bytes, or no file is left
  abbrev pub IsNotGrown : F → List ℕ → List ℕ → ℕ → Fault → F → Type 0
  IsNotGrown files path new size fault files' = OpensStore modelled life calls files path (Err fault) files'
      ⊎ ((disk : D) × (mid : F) × calls.opens files path (Some disk) mid
      × (((fault ≡ NoRoom) × (files' ≡ mid)) ⊎ (calls.creates mid new size None files' ⊎ IsTakenAway disk mid new size files')))

  -- and that is said
  abbrev pub GrowsFile : List ℕ → List ℕ → ℕ → F → Option (List ℕ) → Result (Unit {0}) Fault → F → Option (List ℕ) → Type 0
  GrowsFile path new size files before (Ok done) files' now = IsGrownFile files path new size files' × Appends before now (codes "grown\n")
  GrowsFile path new size files before (Err fault) files' now = (IsNotGrown files path new size fault files' × (now ≡ before)) ⊎ ((fault ≡ Device) × IsGrownFile files path new size files')
