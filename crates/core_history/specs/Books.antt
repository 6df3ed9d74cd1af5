-- A book: a core, and what was asked of it since the book was opened.
use Rattle.std.specs.Prelude.{◌≡◌, ◌≤◌, ◌<◌, ℕ, ◌+◌, Bool, IsTrue, List, [], ◌∷◌, ◌++◌, map, Option, Some, None, ◌==◌, if◌then◌else◌, length, replicate, slice_get}
use Rattle.drda_disk.specs.Disk.{Life}
use Rattle.unit_journal.specs.Record.{Entry}
use Rattle.unit_records.specs.Records.{UnitRecord, entry_of}
use Rattle.core_model.specs.Step.{CoreState}
use Rattle.serializability.specs.Answered.{AnsweredCall, CallsLead, history_of}
use Rattle.serializability.specs.Histories.{calls}
use Rattle.recovery.specs.Openings.{records_of}
use Rattle.recovery.specs.Journaled.{Journaled, OnDisk, shown_on}
use Rattle.core_history.specs.declared.count.Count.{Count}
use Rattle.core_history.specs.declared.left.Left.{Left}
use Rattle.core_history.specs.LeftAnswers.{AreLeft, FailuresAreTrue}

-- as its callers see it
pub record Told (D : Type 0) : Type 0 where
  pub core : OnDisk D
  -- the core as it was when the book was opened
  pub opening : OnDisk D
  -- what was asked since then, in this order
  pub calls : List AnsweredCall
  -- the conversations that have leave, each at its place
  pub places : List (Option Count)
  -- the answers that were left for them, each at its conversation's place
  pub left : List (Option Left)
  -- the next conversation's number
  pub next : ℕ

-- how many of these calls are of a conversation
abbrev pub calls_of : ℕ → List AnsweredCall → ℕ
calls_of conversation [] = 0
calls_of conversation (l ∷ ls) = (if l.conversation == conversation then 1 else 0) + calls_of conversation ls

-- Each conversation that has leave counts its calls, and stands at one place. A number that was not given yet has no calls.
pub record AreCounted (calls : List AnsweredCall) (places : List (Option Count)) (next : ℕ) : Type 0 where
  pub counted : (place : ℕ) (c : Count) → slice_get places place ≡ Some (Some c) → c.calls ≡ calls_of c.conversation calls
  pub given : (place : ℕ) (c : Count) → slice_get places place ≡ Some (Some c) → c.conversation < next
  pub apart : (here there : ℕ) (c d : Count) → slice_get places here ≡ Some (Some c) → slice_get places there ≡ Some (Some d) → c.conversation ≡ d.conversation → here ≡ there
  pub fresh : (conversation : ℕ) → next ≤ conversation → calls_of conversation calls ≡ 0

-- the entries of groups, those of the one behind those of the other
abbrev pub entries_in : List (List Entry) → List Entry
entries_in [] = []
entries_in (group ∷ groups) = group ++ entries_in groups

-- the records that are due of the calls whose steps were taken, each in its turn
abbrev pub records_listed : List AnsweredCall → CoreState → List UnitRecord
records_listed ls s = records_of (map calls (history_of ls)) s

-- since a core was opened the records of these calls were made, in their order, and no others
abbrev pub AreRecorded : {D : Type 0} → OnDisk D → List AnsweredCall → OnDisk D → Type 0
AreRecorded opening ls core = entries_in core.made.done ≡ entries_in opening.made.done ++ map entry_of (records_listed ls opening.state)

-- Where the disk gives back what was written, the calls, with their answers, lead from the opening to the core as it is now, and
-- their records are those that were made; what the core left on its disk since then is journaled; each answer that was left is one of those calls', and where it says that the
-- device failed, the core has failed.
pub record IsKept {D : Type 0} (modelled : Bool) (life : D → Life) (book : Told D) : Type 0 where
  pub leads : IsTrue modelled → CallsLead book.opening.state book.calls book.core.state
  pub recorded : IsTrue modelled → AreRecorded book.opening book.calls book.core
  pub journaled : Journaled modelled (shown_on life book.opening) (shown_on life book.core)
  pub counted : AreCounted book.calls book.places book.next
  pub sixty_four : length book.places ≡ 64
  pub are_left : AreLeft book.calls book.left
  pub as_many : length book.left ≡ 64
  pub failures : FailuresAreTrue book.core.is_failed book.left

-- a book that was just opened: no calls, no conversation has leave, and no answer is left
abbrev pub newly_opened : {D : Type 0} → OnDisk D → Told D
newly_opened core = record { core = core; opening = core; calls = []; places = replicate 64 None; left = replicate 64 None; next = 1 }

-- no conversation has leave
abbrev pub IsIdle : {D : Type 0} → Told D → Type 0
IsIdle book = (place : ℕ) → place < 64 → slice_get book.places place ≡ Some None
