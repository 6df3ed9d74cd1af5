-- What a journal shows behind whose records a group may be laid.
use Rattle.std.specs.Prelude.{◌≡◌, ◌⊎◌, ℕ, ◌+◌, ◌<◌, ◌≤◌, Bool, true, false, IsTrue, List, [], ◌∷◌, ◌++◌, length, drop, Option, Some, None, is_some, Result, OnOk}
use Rattle.drda_words.specs.Place.{part}
use Rattle.drda_disk.specs.Disk.{LeavesOnly, Life, Now, Only}
use Rattle.drda_disk.specs.Errors.{CountsWrite}
use Rattle.drda_disk.specs.Region.{SameOutside, end_of}
use Rattle.drda_disk.specs.declared.region.Region.{Region}
use Rattle.unit_journal.specs.Record.{Entry, laid}
use Rattle.unit_journal.specs.Stands.{IsBeforeOrAfterAll, Stands}
use Rattle.unit_journal.specs.Adding.{Takes}
use Rattle.unit_journal.specs.Errors.{SaysFull}
use Rattle.unit_journal.specs.Journal.{room_of}
use Rattle.drda_disk.specs.declared.errors.WriteError.{WriteError}
use Rattle.unit_journal.specs.declared.journal.Journal.{Journal}
use Rattle.unit_journal.specs.declared.staged.Staged.{Staged}

-- it ends in front of what was laid, and holds nothing back for it
abbrev pub journal_of : Staged → Journal
journal_of s = s.journal

abbrev pub region_of : Staged → Region
region_of s = s.journal.region

-- the offset behind its records
abbrev pub next_of : Staged → ℕ
next_of s = s.journal.next

abbrev pub is_settled : Staged → Bool
is_settled s = s.is_settled

abbrev pub records_ahead : Option (List Entry) → List Entry
records_ahead None = []
records_ahead (Some hs) = hs

-- the records that were laid; there may be none
abbrev pub ahead_of : Staged → List Entry
ahead_of s = records_ahead s.ahead

-- the records that were laid behind those; there may be none
abbrev pub behind_of : Staged → List Entry
behind_of s = records_ahead s.behind

-- whether a group was laid behind the first, which had settled before
abbrev pub has_behind : Staged → Bool
has_behind s = is_some s.behind

-- what is written of a group behind its first gate; nothing of no records
abbrev pub body_of : List Entry → List ℕ
body_of gs = drop 1 (laid gs ++ 0 ∷ [])

-- These records are there to stay: a crash leaves them and no others, whatever was laid behind them.
pub record IsUnderWay (modelled : Bool) (disk : Life) (s : Staged) (es : List Entry) : Type 0 where
  pub modelled_disk : IsTrue modelled
  pub images : (c : List ℕ) → Now disk c → IsBeforeOrAfterAll (region_of s) disk.seen es [] c
  pub stands : Stands (region_of s) es disk.seen
  pub next : next_of s ≡ (region_of s).at + length (laid es)
  -- what was laid stands behind the closed gate
  pub body : part disk.seen (next_of s + 1) (length (laid (ahead_of s))) ≡ body_of (ahead_of s)
  -- and what was laid behind that behind the next closed gate
  pub behind : part disk.seen (next_of s + 1 + length (laid (ahead_of s))) (length (laid (behind_of s))) ≡ body_of (behind_of s)
  -- then a crash leaves the body of the first
  pub firm : has_behind s ≡ true → (c : List ℕ) → Now disk c → part c (next_of s + 1) (length (laid (ahead_of s))) ≡ body_of (ahead_of s)
  -- where nothing was written since the last sync, a crash leaves what is read
  pub rest : is_settled s ≡ true → Only disk

-- nothing is laid, and nothing was written since the last sync
pub record IsAtRest (s : Staged) : Type 0 where
  pub none_ahead : ahead_of s ≡ []
  pub none_behind : s.behind ≡ None
  pub settled : is_settled s ≡ true

-- What adding records makes of a disk and a journal behind which others may have been laid. A crash at any moment leaves the
-- records from before, with all of these or without; `Full` is told exactly where they have no room, and a failure of the
-- device is counted.
pub record AddsBehind {T : Type 0} (modelled : Bool) (old new : Life) (before after : Staged) (gs : List Entry) (bytes hold release : ℕ) (result : Result T WriteError) : Type 0 where
  pub ok : (es : List Entry) → IsUnderWay modelled old before es → OnOk result (IsUnderWay modelled new after (es ++ gs))
  pub any_moment : (es : List Entry) → IsUnderWay modelled old before es → LeavesOnly old new (IsBeforeOrAfterAll (region_of before) old.seen es gs)
  pub others : SameOutside (region_of before) old.seen new.seen
  pub full : SaysFull result (bytes + hold) release (room_of (journal_of before))
  pub cause : CountsWrite result old.faults new.faults
  pub takes : OnOk result (Takes (journal_of before) bytes hold release (journal_of after))

-- whether a group lies there then: exactly where it has room with what is held back and released
abbrev pub LiesThere : Bool → ℕ → ℕ → ℕ → List Entry → Staged → Type 0
LiesThere true asked release room group s = ((ahead_of s ≡ group) ⊎ (behind_of s ≡ group)) × (asked ≤ room + release)
LiesThere false asked release room group s = (ahead_of s ≡ []) × (behind_of s ≡ []) × (room + release < asked)

-- where the body of a group of so many bytes may be laid behind that of the one that was laid, which has settled
pub record IsPlaceBehind (bytes : ℕ) (s : Staged) (at : ℕ) : Type 0 where
  pub settled : is_settled s ≡ true
  pub none : s.behind ≡ None
  pub place : at ≡ next_of s + 1 + length (laid (ahead_of s))
  pub fits : at + bytes ≤ end_of (region_of s)

-- these records are there to stay, and besides each image that leaves them, those may be left that the gate of a group behind them leaves
pub record MayOpenEarly (modelled : Bool) (disk : Life) (s : Staged) (gs : List Entry) (allows : List ℕ → List ℕ → Type 0) : Type 0 where
  pub es : List Entry
  pub there : IsUnderWay modelled disk s es
  pub allowed : (d c : List ℕ) → IsBeforeOrAfterAll (region_of s) disk.seen es [] d → IsBeforeOrAfterAll (region_of s) disk.seen es gs c → allows d c
