-- The record of a disk's writes since the last sync.
use Rattle.std.specs.Prelude.{ℕ, ◌+◌, List, [], ◌∷◌, take, drop, reverse}
use Rattle.drda_disk.specs.Replay.{Step, wrote}
use Rattle.drda_disk.specs.declared.replay.Write.{Write}

-- the oldest first; the bytes of the writes lie one behind another
abbrev pub steps_from : List Write → List ℕ → List Step
steps_from [] written = []
steps_from (w ∷ writes) written = wrote w.at (take w.len written) ∷ steps_from writes (drop w.len written)

-- the newest first
abbrev pub steps_of : List Write → List ℕ → List Step
steps_of writes written = reverse (steps_from writes written)

-- how many bytes they wrote
abbrev pub recorded_len : List Write → ℕ
recorded_len [] = 0
recorded_len (w ∷ writes) = w.len + recorded_len writes
