-- The core's questions, events and units, as the law of serial order speaks of them.
use Rattle.std.specs.Prelude.{◌≡◌, List, [], ◌∷◌, ◌++◌, Option, Some, None, true}
use Rattle.tables.specs.Change.{Change}
use Rattle.tables.specs.Tables.{Store, apply}
use Rattle.tables.specs.View.{is_store}
use Rattle.unit_locks.specs.Claim.{Claim}
use Rattle.unit_locks.specs.Clash.{clash}
use Rattle.unit_locks.specs.Claims.{all_added}
use Rattle.core_calls.specs.Answer.{Answer}
use Rattle.core_calls.specs.declared.sql_fault.SqlFault.{SqlFault}
use Rattle.core_model.specs.Units.{Held, Owner, Work as CoreWork, has_work, is_full, others, same_owner, set_unit, unit_of, without}
use Rattle.core_model.specs.Asked.{Question, answer_to, changes_by, claims_of, unfit}
use Rattle.core_model.specs.Events as core
use Rattle.core_model.specs.Events.{Base as CoreBase, Event as CoreEvent}
use Rattle.serializability.specs.Words.{Words}
use Rattle.serializability.specs.Events.{Ask, Commit, Event, Leave, UnitMap, Work, start}
use Rattle.serializability.specs.Serial.{AllLie, Serially}
use Rattle.serializability.specs.Steps.{AllBegun, Base, bare_run, run_events}
use Rattle.serializability.specs.SqlWords.{Within, bytes_left}

-- what the core answers to a question that is fit, and what the question claims and changes
abbrev pub core_words : Words
core_words = record {
  Store = Store;
  Change = Change;
  Claim = Claim;
  Call = Question;
  Answer = Answer;
  apply = apply;
  clash = clash;
  added = all_added;
  is_full = is_full;
  claims = claims_of;
  answer = λ q xs s. answer_to q (bytes_left xs) s;
  changes = λ q xs s. changes_by q (bytes_left xs) s;
  Sound = λ s. is_store s ≡ true;
  Within = Within;
}

abbrev pub to_work : CoreWork → Work core_words
to_work u = record { changes = u.changes; claims = u.claims }

abbrev pub of_work : Work core_words → CoreWork
of_work u = record { changes = u.changes; claims = u.claims }

-- the units of conversations and XIDs, as the core lists them
abbrev pub core_units : UnitMap core_words
core_units = record {
  Owner = Owner;
  same = same_owner;
  Units = List Held;
  unit_of = λ o units. to_work (unit_of o units);
  set_unit = λ o u units. set_unit o (of_work u) units;
  without = without;
  others = others;
  has = λ o units. has_work (unit_of o units);
}

abbrev pub to_base : CoreBase → Base core_words core_units
to_base b = record { store = b.store; units = b.units }

-- a question that is not fit is refused before it claims, and is no event
abbrev pub question_events : Option SqlFault → Owner → Question → List (Event core_words core_units)
question_events (Some f) o q = []
question_events None o q = Ask o q ∷ []

abbrev pub event_of : CoreEvent → List (Event core_words core_units)
event_of (core.Ask o q) = question_events (unfit q) o q
event_of (core.Commit o) = Commit o ∷ []
event_of (core.Leave o) = Leave o ∷ []

abbrev pub events_of : List CoreEvent → List (Event core_words core_units)
events_of [] = []
events_of (e ∷ es) = event_of e ++ events_of es

-- the core's events, and these, do the same
abbrev pub EventsAreTheirs : Type 0
EventsAreTheirs = (es : List CoreEvent) (b : CoreBase) → to_base (core.bare_run es b) ≡ bare_run core_words core_units (events_of es) (to_base b)

-- after an opening, where nothing is asked of the units that it found in doubt
abbrev pub CoreOrder : Type 0
CoreOrder =
    (s : Store) (units : List Held) (es : List CoreEvent) → is_store s ≡ true → AllLie core_words core_units s units
    → AllBegun core_words core_units (start core_words core_units s units) (events_of es)
    → (let m = run_events core_words core_units (events_of es) (start core_words core_units s units) in
    let b : CoreBase = record { store = s; units = units } in
    Serially core_words s m.ended (core.bare_run es b).store)
