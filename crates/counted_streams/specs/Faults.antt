-- What of two streams is counted, one that is read and one that is written, and what has failed of them.
use Rattle.std.specs.Prelude.{◌≡◌, ◌⊎◌, ◌≤◌, ◌+◌, ◌^◌, ℕ, Result, MatchResult}

-- a fault is one more, and no other call is one
abbrev pub CountsFault : {T E : Type 0} → Result T E → ℕ → ℕ → Type 0
CountsFault result old new = MatchResult result (λ _. new ≡ old) (λ _. new ≡ old + 1)

-- how many reads there were, how many of them failed, and how many writes and flushes failed
pub record Counts : Type 0 where
  pub reads : ℕ
  pub read_faults : ℕ
  pub write_faults : ℕ

-- nothing was read, and nothing has failed
abbrev pub uncounted : Counts
uncounted = record { reads = 0; read_faults = 0; write_faults = 0 }

-- no call has failed
pub record NoneFails (old new : Counts) : Type 0 where
  pub reading : new.read_faults ≡ old.read_faults
  pub writing : new.write_faults ≡ old.write_faults

-- one read has failed, and nothing else; or nothing has, and 2^63 reads were not enough
pub record ReadingFails (old new : Counts) : Type 0 where
  pub reading : (new.read_faults ≡ old.read_faults + 1) ⊎ ((new.read_faults ≡ old.read_faults) × (old.reads + 2 ^ 63 ≤ new.reads))
  pub writing : new.write_faults ≡ old.write_faults

-- one write has failed, and nothing else
pub record WritingFails (old new : Counts) : Type 0 where
  pub reading : new.read_faults ≡ old.read_faults
  pub writing : new.write_faults ≡ old.write_faults + 1
