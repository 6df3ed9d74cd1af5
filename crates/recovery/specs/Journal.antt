-- What the records of a journal lead to, by their bytes.
use Rattle.std.specs.Prelude.{◌≡◌, ◌⊎◌, true, false, ℕ, List, [], ◌∷◌, ◌++◌, map, Some, None, Result, Ok, Err}
use Rattle.std.specs.List.{AllByRecursion}
use Rattle.tables.specs.Tables.{Store}
use Rattle.row_values.specs.declared.row.ReadError.{ReadError}
use Rattle.row_values.specs.declared.row.ReadError.TheVariants as read
use Rattle.unit_journal.specs.Record.{Entry, entries_of, entry_of}
use Rattle.unit_journal.specs.declared.record.Record.{Record}
use Rattle.unit_records.specs.Records.{IsGood, IsRecord, UnitRecord, entry_of as written}
use Rattle.half_store.specs.declared.header.Layout.{Layout}
use Rattle.recovery.specs.Durable.{Durable, at_checkpoint, next, replayed_from}
use Rattle.recovery.specs.Known.{AreKnown, is_of}
use Rattle.recovery.specs.declared.steps.Replay.{Replay}
use Rattle.recovery.specs.Replay.{durable_of}
use Rattle.recovery.specs.declared.journal.ReplayError.{ReplayError}
use Rattle.recovery.specs.declared.journal.ReplayError.TheVariants.{Damaged, NoMemory}

-- an entry says something that leads from a state to another
pub record LeadsOn (d : Durable) (e : Entry) (f : Durable) : Type 0 where
  pub said : UnitRecord
  pub is : IsRecord e.kind e.body said
  pub step : next d said ≡ Some f

-- so do all of them, one after another
abbrev pub Leads : Durable → List Entry → Durable → Type 0
Leads d [] f = d ≡ f
Leads d (e ∷ es) f = (g : Durable) × LeadsOn d e g × Leads g es f

-- an entry is none of the layout's kinds; or what it says has no place in a state, or it says nothing
abbrev pub HasNoPlace : Layout → Durable → Entry → Type 0
HasNoPlace layout d e = (is_of layout e.kind ≡ false) ⊎ ((said : UnitRecord) → IsRecord e.kind e.body said → next d said ≡ None)

-- the first records lead to a state, and there the next one has no place, whose gate is at this offset
pub record StopsAt (layout : Layout) (d : Durable) (records : List Record) (at : ℕ) : Type 0 where
  pub before : List Record
  pub here : Record
  pub behind : List Record
  pub whole : records ≡ before ++ (here ∷ behind)
  pub state : Durable
  pub known : AreKnown layout (entries_of before)
  pub leads : Leads d (entries_of before) state
  pub no_place : HasNoPlace layout state (entry_of here)
  pub place : at ≡ here.at

-- what is told of an entry: the state to which it leads, or that it has no place
abbrev pub Goes : {X : Type 0} → Layout → Durable → Entry → Result X ReadError → Durable → Type 0
Goes layout d e (Ok x) f = (is_of layout e.kind ≡ true) × LeadsOn d e f
Goes layout d e (Err read.Damaged) f = HasNoPlace layout d e
Goes layout d e (Err read.NoMemory) f = Unit {0}

-- what a replay over a checkpoint answers: the state that the records lead to, or where they are damaged. Want of
-- memory may come in place of either.
abbrev pub Replays : Layout → Store → List Record → Result Replay ReplayError → Type 0
Replays layout store records (Ok r) = AreKnown layout (entries_of records) × Leads (at_checkpoint store) (entries_of records) (durable_of r)
Replays layout store records (Err (Damaged at)) = StopsAt layout (at_checkpoint store) records at
Replays layout store records (Err NoMemory) = Unit {0}

-- this state is found, or there is no memory
abbrev pub Finds : Durable → Result Replay ReplayError → Type 0
Finds d (Ok r) = durable_of r ≡ d
Finds d (Err (Damaged at)) = ⊥
Finds d (Err NoMemory) = Unit {0}

-- ---- laws

-- records of which each can be written
abbrev pub AreGood : List UnitRecord → Type 0
AreGood rs = AllByRecursion IsGood rs

-- entries lead to one state at most
abbrev pub OneState : Type 0
OneState = (d e f : Durable) (es : List Entry) → Leads d es e → Leads d es f → e ≡ f

-- and not to one where they stop
abbrev pub NoStop : Type 0
NoStop = (layout : Layout) (d e : Durable) (records : List Record) (at : ℕ) → AreKnown layout (entries_of records) → Leads d (entries_of records) e → StopsAt layout d records at → ⊥

-- records that can be written lead to what they are replayed to
abbrev pub WrittenLead : Type 0
WrittenLead = (d e : Durable) (rs : List UnitRecord) → AreGood rs → replayed_from d rs ≡ Some e → Leads d (map written rs) e

-- and back
abbrev pub LeadingWereWritten : Type 0
LeadingWereWritten = (d e : Durable) (es : List Entry) → Leads d es e → (rs : List UnitRecord) × AreGood rs × (es ≡ map written rs) × (replayed_from d rs ≡ Some e)
