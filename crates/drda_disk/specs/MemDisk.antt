-- What a disk in memory shows.
use Rattle.std.specs.Prelude.{◌≡◌, ℕ, ◌+◌, ◌≤◌, Bool, true, List, replicate, vec_len, vec_capacity}
use Rattle.drda_disk.specs.Disk.{Life, Now, overlaid}
use Rattle.drda_disk.specs.Count.{count_of}
use Rattle.drda_disk.specs.Replay.{replayed}
use Rattle.drda_disk.specs.declared.memory.MemDisk.{MemDisk}

-- its member `life`
abbrev pub life_of : MemDisk → Life
life_of m = replayed (replicate m.size 0) m.bytes.items m.history.steps.value (count_of m.faults)

-- what a read gives
abbrev pub read_of : MemDisk → List ℕ
read_of m = m.bytes.items

-- what a read gave at the last sync, or at first
abbrev pub synced_of : MemDisk → List ℕ
synced_of m = m.synced.items

-- its record has room for so many writes before the next sync, with so many bytes in all
pub record HasRoom (m : MemDisk) (writes bytes : ℕ) : Type 0 where
  pub for_writes : vec_len m.writes + writes ≤ vec_capacity m.writes
  pub for_bytes : vec_len m.written + bytes ≤ vec_capacity m.written

-- a write alone was made
pub record IsWritten (at : ℕ) (bytes : List ℕ) (old : MemDisk) (ok : Bool) (new : MemDisk) : Type 0 where
  pub read : ok ≡ true → read_of new ≡ overlaid (read_of old) at bytes
  pub synced : synced_of new ≡ synced_of old

-- the same bytes, and a crash may leave the same of them
pub record IsCopy (old new : MemDisk) : Type 0 where
  pub read : read_of new ≡ read_of old
  pub synced : synced_of new ≡ synced_of old
  pub images : (c : List ℕ) → Now (life_of new) c → Now (life_of old) c
  pub all_images : (c : List ℕ) → Now (life_of old) c → Now (life_of new) c
