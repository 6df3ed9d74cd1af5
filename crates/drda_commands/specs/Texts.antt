-- The texts of SQLSTT and SQLATTR (DRDA V5 volume 1, SQLSTT and its group SQLSTTGRP): a text of mixed
-- characters, then one of single-byte characters, each of which may be absent.
use Rattle.std.specs.Prelude.{ℕ, ◌==◌, nat_lt, List, [], ◌∷◌, length, take, drop, Option, Some, None, if◌then◌else◌}
use Rattle.std.specs.Option.{option_and_then, option_or}
use Rattle.std.specs.Int.{w32, from_be_bytes}

-- behind the indicator of a text that is present: a length of four bytes and so many bytes; the text, and
-- what follows it
unfoldable pub sized_text : List ℕ → Option (Option (List ℕ) × List ℕ)
sized_text (a ∷ b ∷ c ∷ d ∷ bytes) =
    let size = from_be_bytes w32 (a ∷ b ∷ c ∷ d ∷ []) in
    if nat_lt (length bytes) size then None else Some (Some (take size bytes), drop size bytes)
sized_text bytes = None

-- The text that bytes begin with, and what follows it: FF where it is absent, 00 where it is present; none
-- where another indicator stands there, or the text is cut.
unfoldable pub text_at : List ℕ → Option (Option (List ℕ) × List ℕ)
text_at (indicator ∷ bytes) =
    if indicator == 0xFF then Some (None, bytes) else if indicator == 0x00 then sized_text bytes else None
text_at [] = None

-- both texts
pub record Texts : Type 0 where
  pub mixed : Option (List ℕ)
  pub single : Option (List ℕ)

-- and nothing behind them
abbrev pub closed : Option (List ℕ) → Option (List ℕ) → List ℕ → Option Texts
closed mixed single [] = Some (record { mixed = mixed; single = single })
closed mixed single (b ∷ bytes) = None

abbrev pub closed_by : Option (List ℕ) → Option (Option (List ℕ) × List ℕ) → Option Texts
closed_by mixed (Some x) = closed mixed x.0 x.1
closed_by mixed None = None

abbrev pub begun_by : Option (Option (List ℕ) × List ℕ) → Option Texts
begun_by (Some x) = closed_by x.0 (text_at x.1)
begun_by None = None

-- the two texts that bytes are; none where they are of another form
unfoldable pub texts_in : List ℕ → Option Texts
texts_in bytes = begun_by (text_at bytes)

-- of the two the first one that is present counts, also where it has no bytes
abbrev pub first_present : Texts → Option (List ℕ)
first_present texts = option_or texts.mixed texts.single

-- the text that counts; none where neither is present
abbrev pub text_in : List ℕ → Option (List ℕ)
text_in bytes = option_and_then first_present (texts_in bytes)
