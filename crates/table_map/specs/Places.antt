-- Where a key stands among first keys.
use Rattle.std.specs.Prelude.{◌≡◌, ℕ, ◌-◌, ◌<◌, ◌≤◌, List, [], length, slice_index_or}
use Rattle.std.proofs.Common.{Less}
use Rattle.key_map.specs.Slots.{by_bytes}

-- n of the keys come in front of the place of this one: it does not come before the last of them, and it comes before
-- the next one
pub record IsPlace (key : List ℕ) (keys : List (List ℕ)) (n : ℕ) : Type 0 where
  pub within : n ≤ length keys
  pub behind : 0 < n → by_bytes key (slice_index_or keys (n - 1) []) ≡ Less → ⊥
  pub before : n < length keys → by_bytes key (slice_index_or keys n []) ≡ Less
