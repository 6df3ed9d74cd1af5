-- Values that are kept in 16 places, or in a list of their own.
use Rattle.std.specs.Prelude.{◌≡◌, ℕ, ◌<◌, ◌≤◌, List, []}

-- so many places are taken; where any is, the list is empty
pub record IsHeld {A : Type 0} (count : ℕ) (many : List A) : Type 0 where
  pub within : count ≤ 16
  pub either : 0 < count → many ≡ []
