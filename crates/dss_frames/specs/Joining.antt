-- What becomes of the DSSs of a command when their continuations are joined in place.
use Rattle.std.specs.Prelude.{◌≡◌, ℕ, ◌+◌, ◌/◌, ◌%◌, ◌≤◌, Bool, ◌&&◌, nat_le, List, [], ◌∷◌, ◌++◌, length, take, drop, Option, Some, None, if◌then◌else◌}
use Rattle.drda_words.specs.Number.{word}
use Rattle.dss_frames.specs.Length.{is_continued, segment_length}
use Rattle.dss_frames.specs.Dss.{Dss, IsDss}

-- a count in three bytes
abbrev pub count_bytes : ℕ → List ℕ
count_bytes count = count / 256 / 256 % 256 ∷ count / 256 % 256 ∷ count % 256 ∷ []

-- the bytes are this DSS as it lies in the buffer
pub record IsJoined (bytes : List ℕ) (dss : Dss) : Type 0 where
  pub correlator_high : ℕ
  pub correlator_low : ℕ
  pub text : bytes ≡ count_bytes (length dss.contents) ++ (dss.format ∷ correlator_high ∷ correlator_low ∷ dss.contents)
  pub correlator : dss.correlator ≡ word correlator_high correlator_low
  pub within : length dss.contents ≤ 1048576

-- the bytes are these DSSs, one after the other
abbrev pub AreJoined : List ℕ → List Dss → Type 0
AreJoined bytes [] = bytes ≡ []
AreJoined bytes (dss ∷ dsss) = (front rest : List ℕ) × (bytes ≡ front ++ rest) × IsJoined front dss × AreJoined rest dsss

-- the segment in front, where it has come whole and has `least` bytes: its length, and whether a continuation follows
abbrev pub segment_in : ℕ → ℕ → List ℕ → Option (ℕ × Bool)
segment_in least room (high ∷ low ∷ bytes) =
    if nat_le least (segment_length high low) && nat_le (segment_length high low) room
    then Some (segment_length high low, is_continued high low)
    else None
segment_in least room bytes = None

-- The DSS that stands at `from` is joined and stands at `to` then; what followed it still does. The
-- places behind it, before and after, are given back.
abbrev pub JoinsDss : List ℕ → ℕ → ℕ → ℕ → List ℕ → ℕ × ℕ → Type 0
JoinsDss old from to end new behind =
    (dss : Dss) (part after : List ℕ) → drop from old ≡ part ++ after → from + length part ≤ end → IsDss part dss
    → (behind.0 ≡ from + length part) × (drop behind.0 new ≡ after)
    × ((text : List ℕ) × (take behind.1 new ≡ take to old ++ text) × IsJoined text dss)
