-- What a laid group shows.
use Rattle.std.specs.Prelude.{◌≡◌, ℕ, zero, suc, ◌==◌, if◌then◌else◌, List, [], ◌∷◌, ◌++◌, length, drop, slice_index}
use Rattle.std.specs.Int.{w32, from_be_bytes}
use Rattle.drda_words.specs.Place.{part}
use Rattle.drda_disk.specs.Layout.{open_gate}
use Rattle.unit_journal.specs.Kind.{kind_for}
use Rattle.unit_journal.specs.Record.{Entry, laid, AreShort}

-- the record of an open gate at the front of bytes
abbrev pub first_in : List ℕ → Entry
first_in bytes = record { kind = kind_for (slice_index bytes 1); body = part bytes 6 (from_be_bytes w32 (part bytes 2 4)) }

-- the records from the front of bytes on, so many at most, up to a closed gate
abbrev pub entries_from : ℕ → List ℕ → List Entry
entries_from zero bytes = []
entries_from (suc n) bytes = if slice_index bytes 0 == open_gate then first_in bytes ∷ entries_from n (drop (length (first_in bytes).body) (drop 6 bytes)) else []

-- the records in such bytes: all of a group but the gate of its first
abbrev pub entries_behind : List ℕ → List Entry
entries_behind bytes = entries_from (length bytes) (open_gate ∷ bytes)

-- such bytes are their records one behind another, and a closed gate behind the last
pub record IsLaid (bytes : List ℕ) : Type 0 where
  pub spelled : open_gate ∷ bytes ≡ laid (entries_behind bytes) ++ 0 ∷ []
  pub short : AreShort (entries_behind bytes)
