-- Histories of calls of the core, with the logs of the law beside them.
use Rattle.std.specs.Prelude.{◌≡◌, ℕ, Bool, true, false, List, [], ◌∷◌, Option, Some, None, if◌then◌else◌}
use Rattle.drda_words.specs.Order.{IsRising}
use Rattle.tables.specs.Tables.{Store}
use Rattle.tables.specs.View.{is_store}
use Rattle.xa_manager.specs.declared.branch.Branch.{Branch}
use Rattle.xa_manager.specs.declared.branch.BranchState.{BranchState}
use Rattle.xa_manager.specs.declared.branch.BranchState.TheVariants.{Heuristic}
use Rattle.xa_manager.specs.declared.due.Action.TheVariants.{Decide}
use Rattle.xa_manager.specs.declared.due.Decision.{Decision}
use Rattle.xa_manager.specs.Branch.{is_undecided, state_of, with_state}
use Rattle.core_calls.specs.Call.{Call}
use Rattle.core_model.specs.Units.{Held, Owner, global, has_work, local, unit_of}
use Rattle.core_model.specs.Events.{Base as CoreBase}
use Rattle.core_model.specs.Step.{CoreState, Kept, MarkedCall, Mark, Taken, action_events, decided_state, events, next, replay, step_by}
use Rattle.serializability.specs.Events.{World, start}
use Rattle.serializability.specs.Serial.{AllLie, Serially}
use Rattle.serializability.specs.Steps.{run_events}
use Rattle.serializability.specs.CoreWords.{core_units, core_words, events_of}

-- the core's store and units with the logs of the law, and its branches
pub record Story : Type 0 where
  pub branches : List Branch
  pub world : World core_words core_units

abbrev pub base_of : World core_words core_units → CoreBase
base_of m = record { store = m.store; units = m.units }

-- without the logs
abbrev pub core_of : Story → CoreState
core_of s = record { base = base_of s.world; branches = s.branches }

abbrev pub told : Story → ℕ → Call → Story
told s conversation k = record {
  branches = next s.branches (base_of s.world) conversation k;
  world = run_events core_words core_units (events_of (events s.branches (base_of s.world) conversation k)) s.world;
}

abbrev pub told_by : Mark → Story → ℕ → Call → Story
told_by Taken s conversation k = told s conversation k
told_by Kept s conversation k = s

abbrev pub story : List MarkedCall → Story → Story
story [] s = s
story (l ∷ ls) s = story ls (told_by l.mark s l.conversation l.call)

-- the branch is known, and waits for its decision
abbrev pub waits : Option BranchState → Bool
waits None = false
waits (Some state) = is_undecided state

-- the unit is that of a prepared branch
abbrev pub is_prepared : List Branch → Owner → Bool
is_prepared branches (local conversation) = false
is_prepared branches (global xid) = waits (state_of branches xid)

-- After an opening whose units are all of prepared branches, and whatever is called then by whichever
-- conversations, whether the steps are taken or not: the units that were committed, alone one after
-- another, lead from the opening's store to the committed one. The story is that of the replay.
abbrev pub HistoriesAreSerial : Type 0
HistoriesAreSerial =
    (s : Store) (units : List Held) (branches : List Branch) (history : List MarkedCall)
    → is_store s ≡ true → AllLie core_words core_units s units → IsRising (λ b. b.xid) branches
    → ((o : Owner) → has_work (unit_of o units) ≡ true → is_prepared branches o ≡ true)
    → (let end = story history (record { branches = branches; world = start core_words core_units s units }) in
    let real = replay history (record { base = record { store = s; units = units }; branches = branches }) in
    Serially core_words s end.world.ended real.base.store × (core_of end ≡ real))

-- ---- heuristic decisions between calls

-- what happens to a core: a call of a conversation, or the decision of an XID without its transaction manager
pub data Happening : Type 0 where
  calls : MarkedCall → Happening
  decides : List ℕ → Decision → Happening

-- its branch is decided, which waited for that
abbrev pub told_decided : Story → List ℕ → Decision → Story
told_decided s xid d = record {
  branches = with_state s.branches xid (Heuristic d);
  world = run_events core_words core_units (events_of (action_events xid (Decide d))) s.world;
}

-- where it waits for none, nothing happens
abbrev pub told_of : Happening → Story → Story
told_of (calls l) s = told_by l.mark s l.conversation l.call
told_of (decides xid d) s = if is_prepared s.branches (global xid) then told_decided s xid d else s

abbrev pub whole_story : List Happening → Story → Story
whole_story [] s = s
whole_story (h ∷ hs) s = whole_story hs (told_of h s)

abbrev pub happened : Happening → CoreState → CoreState
happened (calls l) s = step_by l.mark s l.conversation l.call
happened (decides xid d) s = if is_prepared s.branches (global xid) then decided_state s xid d else s

abbrev pub all_happened : List Happening → CoreState → CoreState
all_happened [] s = s
all_happened (h ∷ hs) s = all_happened hs (happened h s)

-- So it is with heuristic decisions between the calls: the unit of a branch that is committed so stands in the order where it
-- was decided.
abbrev pub DecidedHistoriesAreSerial : Type 0
DecidedHistoriesAreSerial =
    (s : Store) (units : List Held) (branches : List Branch) (history : List Happening)
    → is_store s ≡ true → AllLie core_words core_units s units → IsRising (λ b. b.xid) branches
    → ((o : Owner) → has_work (unit_of o units) ≡ true → is_prepared branches o ≡ true)
    → (let end = whole_story history (record { branches = branches; world = start core_words core_units s units }) in
    let real = all_happened history (record { base = record { store = s; units = units }; branches = branches }) in
    Serially core_words s end.world.ended real.base.store × (core_of end ≡ real))
