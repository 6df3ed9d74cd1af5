-- What reading an event from a stream gives.
use Rattle.std.specs.Prelude.{◌≡◌, ◌<◌, ◌≤◌, ◌+◌, ℕ, nat_le, Bool, false, List, [], ◌∷◌, take, length, Option, Some, None, IfSome}
use Rattle.std.specs.Int.{w32, from_be_bytes}
use Rattle.std.specs.Io.KnownBytes.{Consumes, IsAtEnd}
use Rattle.drda_node.specs.declared.event.Head.{Head}
use Rattle.drda_node.specs.declared.event.Head.TheVariants.{Opens, Sends, Loses, Checkpoints}
use Rattle.drda_node.specs.declared.reading.Filled.{Filled}
use Rattle.drda_node.specs.declared.reading.Filled.TheVariants.{Whole, Ended as ended, Fault as fault}
use Rattle.drda_node.specs.declared.reading.Incoming.{Incoming}
use Rattle.drda_node.specs.declared.reading.Incoming.TheVariants.{Event as event, Ended, Bad, Fault}
use Rattle.drda_node.specs.Records.{Event, opens, sends, loses, checkpoints, event_text, IsAllowed, IsBad}

-- no event's record has this kind and this length
pub record NoHead (kind size : ℕ) : Type 0 where
  pub opens_none : kind ≡ 1 → size ≡ 0 → ⊥
  pub sends_none : kind ≡ 2 → size ≤ 65536 → ⊥
  pub loses_none : kind ≡ 3 → size ≡ 0 → ⊥
  pub checkpoints_none : kind ≡ 4 → size ≡ 0 → ⊥

-- what a record of this kind, number and length is
abbrev pub IsHead : ℕ → ℕ → ℕ → Option Head → Type 0
IsHead kind number size (Some (Opens n)) = (kind ≡ 1) × (number ≡ n) × (size ≡ 0)
IsHead kind number size (Some (Sends n count)) = (kind ≡ 2) × (number ≡ n) × (size ≡ count) × (count ≤ 65536)
IsHead kind number size (Some (Loses n)) = (kind ≡ 3) × (number ≡ n) × (size ≡ 0)
IsHead kind number size (Some (Checkpoints n)) = (kind ≡ 4) × (number ≡ n) × (size ≡ 0)
IsHead kind number size None = NoHead kind size

-- the event, with its bytes at the front of these
abbrev pub event_of : Head → List ℕ → Event
event_of (Opens number) bytes = opens number
event_of (Sends number size) bytes = sends number (take size bytes)
event_of (Loses number) bytes = loses number
event_of (Checkpoints number) bytes = checkpoints number

-- how many bytes an event brings
abbrev pub size_of : Head → ℕ
size_of (Opens number) = 0
size_of (Sends number size) = size
size_of (Loses number) = 0
size_of (Checkpoints number) = 0

-- a buffer was filled, or the stream ended before that
abbrev pub Fills : Option (List ℕ) → Option (List ℕ) → Filled → List ℕ → Type 0
Fills old new Whole bytes = Consumes old new bytes
Fills old new (ended count) bytes = Consumes old new (take count bytes) × IsAtEnd new × (count < length bytes)
Fills old new fault bytes = Unit {0}

-- how many reads had failed before and behind it: one more exactly where that is told
abbrev pub CountsFilling : Filled → ℕ → ℕ → Type 0
CountsFilling Whole old new = new ≡ old
CountsFilling (ended count) old new = new ≡ old
CountsFilling fault old new = new ≡ old + 1

pub record Receives (old new : Option (List ℕ)) (incoming : Event) : Type 0 where
  pub allowed : IsAllowed incoming
  pub consumed : Consumes old new (event_text incoming)

-- an event was read, its bytes to the front of these; or there was nothing more, or no event's record
abbrev pub ReadsEvent : Option (List ℕ) → Option (List ℕ) → Incoming → List ℕ → Type 0
ReadsEvent old new (event head) bytes = Receives old new (event_of head bytes)
ReadsEvent old new Ended bytes = IfSome old (λ left. left ≡ [])
ReadsEvent old new Bad bytes = IfSome old IsBad
ReadsEvent old new Fault bytes = Unit {0}

abbrev pub CountsReading : Incoming → ℕ → ℕ → Type 0
CountsReading (event head) old new = new ≡ old
CountsReading Ended old new = new ≡ old
CountsReading Bad old new = new ≡ old
CountsReading Fault old new = new ≡ old + 1

abbrev pub IsWithin : Incoming → Type 0
IsWithin (event head) = size_of head ≤ 65536
IsWithin Ended = Unit {0}
IsWithin Bad = Unit {0}
IsWithin Fault = Unit {0}

-- a whole record stands in front, of whatever kind
abbrev pub holds_record : List ℕ → Bool
holds_record (kind ∷ number ∷ a ∷ b ∷ c ∷ d ∷ contents) = nat_le (from_be_bytes w32 (a ∷ b ∷ c ∷ d ∷ [])) (length contents)
holds_record bytes = false
