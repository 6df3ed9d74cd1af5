-- The first of many pages with which they are not what they should be.
use Rattle.std.specs.Prelude.{◌≡◌, ◌<◌, ◌+◌, ◌*◌, ℕ, List, [], ◌∷◌, ◌++◌, length}
use Rattle.drda_disk.specs.Layout.{page_bytes}

-- Of so many pages from an offset on, the first bad one lies here: those in front of it are as they should be, and with
-- it, whatever it is said to hold, they are not.
pub record BreaksAt {X : Type 0} (AreRight : List X → Type 0) (at count here : ℕ) : Type 0 where
  pub front : List X
  pub place : here ≡ at + page_bytes * length front
  pub within : length front < count
  pub right : AreRight front
  pub bad : (page : X) → AreRight (front ++ page ∷ []) → ⊥
