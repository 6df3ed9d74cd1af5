-- What a call makes of the book that it finds under the lock.
use Rattle.std.specs.Prelude.{◌≡◌, ◌↔◌, Bool, true, false, IfSome, IsTrue}
use Rattle.drda_disk.specs.Disk.{Life}
use Rattle.recovery.specs.Journaled.{Journaled, OnDisk, shown_on}
use Rattle.core_history.specs.declared.pass.Pass.{Pass}
use Rattle.turns.specs.declared.turn.Turn.{Turn}
use Rattle.core_history.specs.Books.{IsKept, Told}
use Rattle.core_history.specs.Passes.{Admits, HasNoLeave, Knows, Rests, retired}

-- A book was found under the lock, and one was left. It was opened over a core of which this is known, and stays that book; it was
-- kept, and is; and what the core left on its disk meanwhile is journaled.
pub record UnderLock {D : Type 0} (modelled : Bool) (life : D → Life) (origin : OnDisk D → Type 0) (Makes : Told D → Told D → Type 0) : Type 0 where
  pub found : Told D
  pub left : Told D
  pub is_of : origin found.opening
  pub opening : left.opening ≡ found.opening
  pub was_kept : IsKept modelled life found
  pub is_kept : IsKept modelled life left
  pub journaled : Journaled modelled (shown_on life found.core) (shown_on life left.core)
  pub makes : Makes found left

-- leave was given for one conversation more
pub record GivesLeave {D : Type 0} (pass : Pass) (found left : Told D) : Type 0 where
  pub admits : Admits found pass left

-- nothing was done, since 64 had leave, or no number was left
pub record GivesNone {D : Type 0} (found left : Told D) : Type 0 where
  pub full : HasNoLeave found
  pub same : left ≡ found

-- the pass was taken back where the book counted as it does; else nothing was done
pub record Retires {D : Type 0} (pass : Pass) (is_taken : Bool) (found left : Told D) : Type 0 where
  pub known : IsTrue is_taken ↔ Knows found pass
  pub done : is_taken ≡ true → left ≡ retired found pass
  pub stranger : is_taken ≡ false → left ≡ found

-- A checkpoint may have been written. The turn tells the room behind it, and whether the device failed.
pub record Considers {D : Type 0} (turn : Turn) (found left : Told D) : Type 0 where
  pub rests : Rests found.core left.core
  pub rest : left ≡ record found { core = left.core }
  pub room : IfSome turn.checkpointed (λ room. room ≡ left.core.room)
  pub failed : turn.has_failed ≡ true → (found.core.is_failed ≡ false) × (left.core.is_failed ≡ true)
  pub unfailed : found.core.is_failed ≡ false → left.core.is_failed ≡ true → turn.has_failed ≡ true

-- A group may have been laid ahead, or its flush settled: nothing was made, and nothing was listed.
pub record LaysAhead {D : Type 0} (found left : Told D) : Type 0 where
  pub rests : Rests found.core left.core
  pub rest : left ≡ record found { core = left.core }
