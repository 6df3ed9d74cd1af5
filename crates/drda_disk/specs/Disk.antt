-- What the calls of a disk do, and what a crash may do between two syncs.
use Rattle.std.specs.Prelude.{◌≡◌, ◌⊎◌, ℕ, ◌+◌, ◌≤◌, List, ◌++◌, length, take, drop, Result, MatchResult}

-- A disk at one moment: what a read gives; the moment, as a number that does not fall; the images that a
-- crash at some moment since then may have left; and how many calls have failed.
pub record Life : Type 1 where
  pub seen : List ℕ
  pub moment : ℕ
  pub left_since : ℕ → List ℕ → Type 0
  pub faults : ℕ

-- a crash now may leave this image
abbrev pub Now : Life → List ℕ → Type 0
Now disk c = disk.left_since disk.moment c

-- a crash now leaves what is read, and nothing else
abbrev pub Only : Life → Type 0
Only disk = (c : List ℕ) → Now disk c → c ≡ disk.seen

-- the file with these bytes at an offset
abbrev pub overlaid : List ℕ → ℕ → List ℕ → List ℕ
overlaid file at bytes = take at file ++ (bytes ++ drop (at + length bytes) file)

-- any bytes in a range, and the same elsewhere
pub record Torn (at n : ℕ) (old new : List ℕ) : Type 0 where
  pub size : length new ≡ length old
  pub before : take at new ≡ take at old
  pub after : drop (at + n) new ≡ drop (at + n) old

-- Time goes on: since t there are the images of before and those of now.
pub record Elapses (old new : Life) : Type 0 where
  pub later : old.moment ≤ new.moment
  pub nothing_else : (t : ℕ) (c : List ℕ) → t ≤ old.moment → new.left_since t c → old.left_since t c ⊎ Now new c
  pub keeps : (t : ℕ) (c : List ℕ) → t ≤ old.moment → old.left_since t c → new.left_since t c

-- Nothing is written: no crash leaves what it might not have left before.
pub record Stays (old new : Life) : Type 0 where
  pub later : old.moment ≤ new.moment
  pub same : new.seen ≡ old.seen
  pub no_more : (c : List ℕ) → Now new c → Now old c
  pub nothing_new : (t : ℕ) (c : List ℕ) → t ≤ old.moment → new.left_since t c → old.left_since t c
  pub keeps : (t : ℕ) (c : List ℕ) → t ≤ old.moment → old.left_since t c → new.left_since t c

-- A range may have any bytes, in what is read and in what a crash may leave.
pub record Tears (at n : ℕ) (old new : Life) : Type 0 where
  pub time : Elapses old new
  pub others : Torn at n old.seen new.seen
  pub images : (c : List ℕ) → Now new c → (d : List ℕ) × Now old d × Torn at n d c

-- a fault is one more failure, and no other call is one
abbrev pub CountsFault : {T E : Type 0} → Result T E → ℕ → ℕ → Type 0
CountsFault result old new = MatchResult result (λ _. new ≡ old) (λ _. new ≡ old + 1)

-- A crash at any moment since old leaves an image that has P, and the disk has kept its size.
pub record LeavesOnly (old new : Life) (P : List ℕ → Type 0) : Type 0 where
  pub later : old.moment ≤ new.moment
  pub size : length new.seen ≡ length old.seen
  pub each : (c : List ℕ) → new.left_since old.moment c → P c
  pub now : (c : List ℕ) → Now new c → P c
  -- for a run of calls that began earlier
  pub before : (t : ℕ) (c : List ℕ) → t ≤ old.moment → new.left_since t c → old.left_since t c ⊎ P c

-- each image of a crash now is this base but for a range
abbrev pub Within : ℕ → ℕ → List ℕ → Life → Type 0
Within at n base disk = (c : List ℕ) → Now disk c → Torn at n base c
