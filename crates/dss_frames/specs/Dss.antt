-- A data stream structure (DRDA V5 volume 3, DSS) as a relation on its whole text.
use Rattle.std.specs.Prelude.{◌≡◌, ℕ, ◌+◌, ◌≤◌, Bool, true, false, List, [], ◌∷◌, ◌++◌, length, IsTrue}
use Rattle.std.specs.List.{concat}
use Rattle.drda_words.specs.Number.{word}
use Rattle.dss_frames.specs.Length.{is_continued, segment_length, dss_limit}

pub record Dss : Type 0 where
  pub format : ℕ
  pub correlator : ℕ
  pub contents : List ℕ

-- The bytes are continuations with these contents, each of one byte at the least. `before` is what
-- the segment in front says of a continuation, and `after` what the last of them says.
abbrev pub AreContinuations : Bool → List ℕ → List (List ℕ) → Bool → Type 0
AreContinuations before bytes [] after = (bytes ≡ []) × (before ≡ after)
AreContinuations before bytes (piece ∷ pieces) after =
    (high low : ℕ) × (rest : List ℕ)
    × IsTrue before
    × (bytes ≡ high ∷ low ∷ piece ++ rest)
    × (segment_length high low ≡ 2 + length piece)
    × (1 ≤ length piece)
    × AreContinuations (is_continued high low) rest pieces after

-- The bytes are a header with its contents, and continuations whose contents are joined on. `more`
-- says whether yet another continuation must follow.
pub record AreSegments (bytes : List ℕ) (dss : Dss) (more : Bool) : Type 0 where
  pub high : ℕ
  pub low : ℕ
  pub correlator_high : ℕ
  pub correlator_low : ℕ
  pub first : List ℕ
  pub rest : List ℕ
  pub pieces : List (List ℕ)
  pub text : bytes ≡ high ∷ low ∷ 0xD0 ∷ dss.format ∷ correlator_high ∷ correlator_low ∷ first ++ rest
  pub correlator : dss.correlator ≡ word correlator_high correlator_low
  pub counts : segment_length high low ≡ 6 + length first
  pub continued : AreContinuations (is_continued high low) rest pieces more
  pub joined : dss.contents ≡ first ++ concat pieces
  pub within : length bytes ≤ dss_limit

-- the bytes are this DSS, the whole of it
abbrev pub IsDss : List ℕ → Dss → Type 0
IsDss bytes dss = AreSegments bytes dss false

-- the bytes are a DSS so far, with these contents so far, and its next continuation has to come
abbrev pub IsOpenDss : List ℕ → Dss → Type 0
IsOpenDss bytes dss = AreSegments bytes dss true

-- the bytes are these DSSs, one after the other
abbrev pub AreDsss : List ℕ → List Dss → Type 0
AreDsss bytes [] = bytes ≡ []
AreDsss bytes (dss ∷ dsss) = (front rest : List ℕ) × (bytes ≡ front ++ rest) × IsDss front dss × AreDsss rest dsss
