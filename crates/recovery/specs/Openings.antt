-- What the law of serial order asks of an opening, and that what a store opens to has it: whatever the bytes of the store
-- are, but for the claims of units in doubt; and these too of a store that the calls of cores, and heuristic decisions, alone have written.
use Rattle.std.specs.Prelude.{◌≡◌, ℕ, true, List, [], ◌∷◌, ◌++◌, if◌then◌else◌, map, take, Some}
use Rattle.std.specs.List.{AllByRecursion}
use Rattle.std.specs.Option.{option_to_list}
use Rattle.drda_words.specs.Order.{IsRising}
use Rattle.core_calls.specs.Call.{Call}
use Rattle.core_model.specs.Units.{Owner, global, has_work, unit_of}
use Rattle.core_model.specs.Step.{CoreState, Kept, Mark, Taken}
use Rattle.core_model.specs.Laws.{AreListed, AreSound, IsPrepared, IsSane}
use Rattle.unit_records.specs.Due.{record_due}
use Rattle.serializability.specs.Histories.{Happening, all_happened, calls, decides, happened, is_prepared}
use Rattle.unit_records.specs.Records.{IsGood, UnitRecord, entry_of, heuristic}
use Rattle.recovery.specs.Durable.{Durable, fresh, replayed_from}
use Rattle.recovery.specs.Sound.{IsSound}
use Rattle.recovery.specs.Kept.{IsKept}
use Rattle.recovery.specs.Opens.{OpensTo}
use Rattle.recovery.specs.Part.{durable_part, opened}

-- ---- whatever the store

-- each unit with work is that of a prepared branch
abbrev pub AllPrepared : CoreState → Type 0
AllPrepared s = (o : Owner) → has_work (unit_of o s.base.units) ≡ true → (xid : List ℕ) × (o ≡ global xid) × IsPrepared s.branches xid

-- a core that begins: its store is one, its branches rise, and nothing is under way but what is in doubt
pub record IsOpening (s : CoreState) : Type 0 where
  pub listed : AreListed s.base.units
  pub sound : AreSound s.base
  pub rising : IsRising (λ b. b.xid) s.branches
  pub prepared : AllPrepared s

abbrev pub OpeningsBegin : Type 0
OpeningsBegin = (d : Durable) → IsSound d → IsOpening (opened d)

-- so does what any image opens to
abbrev pub ImagesBegin : Type 0
ImagesBegin = (name : List ℕ) (d : Durable) (image : List ℕ) → OpensTo name d image → IsOpening (opened d)

-- and it is sound
abbrev pub ImagesAreSound : Type 0
ImagesAreSound = (name : List ℕ) (d : Durable) (image : List ℕ) → OpensTo name d image → IsSound d

-- ---- the records of a history

-- of a call whose step was taken the one that is due, if any
abbrev pub record_by : Mark → CoreState → ℕ → Call → List UnitRecord
record_by Taken s conversation k = option_to_list (record_due s conversation k)
record_by Kept s conversation k = []

-- of a heuristic decision its own, where the branch waits for one
abbrev pub records_by : Happening → CoreState → List UnitRecord
records_by (calls l) s = record_by l.mark s l.conversation l.call
records_by (decides xid d) s = if is_prepared s.branches (global xid) then heuristic xid d ∷ [] else []

abbrev pub records_of : List Happening → CoreState → List UnitRecord
records_of [] s = []
records_of (h ∷ hs) s = records_by h s ++ records_of hs (happened h s)

-- the records of what follows others follow those of the others
abbrev pub RecordsGoOn : Type 0
RecordsGoOn =
    (history more : List Happening) (s : CoreState)
    → records_of (history ++ more) s ≡ records_of history s ++ records_of more (all_happened history s)

-- this was durable of the core after so much of what happened
pub record IsPoint (s : CoreState) (history : List Happening) (d : Durable) : Type 0 where
  pub count : ℕ
  pub is : d ≡ durable_part (all_happened (take count history) s)
  pub kept : IsKept (all_happened (take count history) s)

-- A crash leaves the first of the records. Where the device failed in the last call, its record may be among them: then
-- that call stands in this history as taken. Calls that were made together have a record each, so a history of them is
-- that of the calls, one after another.
abbrev pub CrashesFindPoints : Type 0
CrashesFindPoints =
    (s : CoreState) (history : List Happening) (count : ℕ) (d : Durable)
    → IsKept s → replayed_from (durable_part s) (take count (records_of history s)) ≡ Some d → IsPoint s history d

-- records that can be written are told by their entries
abbrev pub EntriesTell : Type 0
EntriesTell = (rs ts : List UnitRecord) → AllByRecursion IsGood rs → AllByRecursion IsGood ts → map entry_of rs ≡ map entry_of ts → rs ≡ ts

-- ---- where the cores that wrote the store were sane

-- what is durable of a sane core opens to a sane one: each change of a unit in doubt lies in a write claim of it
abbrev pub OpeningsStaySane : Type 0
OpeningsStaySane = (s : CoreState) → IsSane s.base → IsSane (opened (durable_part s)).base

-- and so does what a crash leaves of its history
abbrev pub CrashesLeaveSane : Type 0
CrashesLeaveSane =
    (s : CoreState) (history : List Happening) (count : ℕ) (d : Durable)
    → IsKept s → IsSane s.base → replayed_from (durable_part s) (take count (records_of history s)) ≡ Some d → IsSane (opened d).base

-- what happens to a store between two openings: calls and heuristic decisions, and a crash that leaves so many of their records
pub record Life : Type 0 where
  pub history : List Happening
  pub count : ℕ

-- lives one after another lead a store from the one state to the other; what is opened is sound each time, as what records
-- lead to is
abbrev pub LivesLead : Durable → List Life → Durable → Type 0
LivesLead d [] e = d ≡ e
LivesLead d (l ∷ ls) e =
    (f : Durable) × IsSound f × (replayed_from d (take l.count (records_of l.history (opened d))) ≡ Some f) × LivesLead f ls e

-- so a store that was made, and written by calls and heuristic decisions alone, opens to a sane core each time
abbrev pub StoresStaySane : Type 0
StoresStaySane = (lives : List Life) (d : Durable) → LivesLead fresh lives d → IsSane (opened d).base
