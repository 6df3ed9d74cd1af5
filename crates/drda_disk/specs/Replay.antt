-- All that a crash may leave of a disk in memory, from what it was at first and its calls since.
use Rattle.std.specs.Prelude.{◌≡◌, ℕ, ◌+◌, ◌≤◌, List, [], ◌∷◌, length, drop, nat_le, if◌then◌else◌}
use Rattle.std.proofs.Common.{arith}
use Rattle.drda_disk.specs.Disk.{Torn, overlaid, Life}

pub data Step : Type 0 where
  wrote : ℕ → List ℕ → Step
  synced : Step

-- a write of what lies in the file
abbrev pub written_over : List ℕ → ℕ → List ℕ → List ℕ
written_over file at bytes = if nat_le (at + length bytes) (length file) then overlaid file at bytes else file

-- Below, the newest step comes first. What is read:
abbrev pub read_after : List ℕ → List Step → List ℕ
read_after first [] = first
read_after first (wrote at bytes ∷ earlier) = written_over (read_after first earlier) at bytes
read_after first (synced ∷ earlier) = read_after first earlier

-- what the last sync made durable
abbrev pub synced_after : List ℕ → List Step → List ℕ
synced_after first [] = first
synced_after first (wrote at bytes ∷ earlier) = synced_after first earlier
synced_after first (synced ∷ earlier) = read_after first earlier

-- the writes since the last sync
abbrev pub unsynced : List Step → List Step
unsynced [] = []
unsynced (wrote at bytes ∷ earlier) = wrote at bytes ∷ unsynced earlier
unsynced (synced ∷ earlier) = []

-- what a crash may leave: of what the last sync made durable, with any bytes where a write came since
abbrev pub Reaches : List ℕ → List Step → List ℕ → Type 0
Reaches first [] c = c ≡ first
Reaches first (wrote at bytes ∷ earlier) c = (d : List ℕ) × Reaches first earlier d × Torn at (length bytes) d c
Reaches first (synced ∷ earlier) c = c ≡ read_after first earlier

-- what a crash may have left at some moment since so many calls had been recorded
abbrev pub LeftSince : List ℕ → List Step → ℕ → List ℕ → Type 0
LeftSince first steps t c = (k : ℕ) × (k + t ≤ length steps) × Reaches first (drop k steps) c

abbrev pub replayed : List ℕ → List ℕ → List Step → ℕ → Life
replayed first seen steps faults = record { seen = seen; moment = length steps; left_since = LeftSince first steps; faults = faults }

pub counts : (first : List ℕ) (steps : List Step) (t : ℕ) (c : List ℕ) → t ≤ length steps → LeftSince first steps (length steps) c → LeftSince first steps t c
counts first steps t c le (k, low, image) = (k, omega arith, image)
