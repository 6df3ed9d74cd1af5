-- Steps of a core: the store and the units without the logs of the law, and beside them whatever else a
-- core has, as the places of its branches.
use Rattle.std.specs.Prelude.{◌≡◌, ◌⊎◌, Bool, true, false, List, [], ◌∷◌, if◌then◌else◌}
use Rattle.serializability.specs.Words.{Words}
use Rattle.serializability.specs.Events.{view, UnitMap, Outcome, Clashes, TooMany, Done, asked, World, Event, Ask, Commit, Leave, happens, start}
use Rattle.serializability.specs.Serial.{AllLie, Serially}

pub record Base (w : Words) (k : UnitMap w) : Type 0 where
  pub store : w.Store
  pub units : k.Units

abbrev pub bare_asked : (w : Words) (k : UnitMap w) → Base w k → k.Owner → Outcome w → Base w k
bare_asked w k b o Clashes = b
bare_asked w k b o TooMany = b
bare_asked w k b o (Done a u) = record { store = b.store; units = k.set_unit o u b.units }

-- an event without the logs
abbrev pub bare : (w : Words) (k : UnitMap w) → Base w k → Event w k → Base w k
bare w k b (Ask o call) = bare_asked w k b o (asked w (k.others o b.units) b.store (k.unit_of o b.units) call)
bare w k b (Commit o) = record { store = view w b.store (k.unit_of o b.units); units = k.without o b.units }
bare w k b (Leave o) = record { store = b.store; units = k.without o b.units }

abbrev pub bare_run : (w : Words) (k : UnitMap w) → List (Event w k) → Base w k → Base w k
bare_run w k [] b = b
bare_run w k (e ∷ es) b = bare_run w k es (bare w k b e)

abbrev pub run_events : (w : Words) (k : UnitMap w) → List (Event w k) → World w k → World w k
run_events w k [] m = m
run_events w k (e ∷ es) m = run_events w k es (happens w k m e)

abbrev pub forget : (w : Words) (k : UnitMap w) → World w k → Base w k
forget w k m = record { store = m.store; units = m.units }

-- ---- what every event keeps

-- the store is one, and the changes of each unit lie in what it claims to write
pub record IsKept (w : Words) (k : UnitMap w) (b : Base w k) : Type 0 where
  pub sound : w.Sound b.store
  pub lie : AllLie w k b.store b.units

-- so it holds of each store that events alone made
abbrev pub EventsKeep : (w : Words) → UnitMap w → Type 0
EventsKeep w k = (b : Base w k) (e : Event w k) → IsKept w k b → IsKept w k (bare w k b e)

-- ---- the events of a run with the logs and without them

-- no unit that the opening found in doubt is asked
abbrev pub IsBegun : (w : Words) (k : UnitMap w) → World w k → Event w k → Type 0
IsBegun w k m (Ask o call) = m.found o ≡ false
IsBegun w k m (Commit o) = Unit {0}
IsBegun w k m (Leave o) = Unit {0}

abbrev pub AllBegun : (w : Words) (k : UnitMap w) → World w k → List (Event w k) → Type 0
AllBegun w k m [] = Unit {0}
AllBegun w k m (e ∷ es) = IsBegun w k m e × AllBegun w k (happens w k m e) es

-- the logs change nothing
abbrev pub LogsAreBeside : (w : Words) → UnitMap w → Type 0
LogsAreBeside w k = (m : World w k) (es : List (Event w k)) → AllBegun w k m es → forget w k (run_events w k es m) ≡ bare_run w k es (forget w k m)

-- ---- a core

-- what a call does to the rest of a core, and which events of units it makes
pub record Calls (w : Words) (k : UnitMap w) : Type 1 where
  pub Asked : Type 0
  pub Rest : Type 0
  pub events : Rest → Base w k → Asked → List (Event w k)
  pub next : Rest → Base w k → Asked → Rest
  -- whether a unit is in doubt
  pub prepared : Rest → k.Owner → Bool

pub record State (w : Words) (k : UnitMap w) (d : Calls w k) : Type 0 where
  pub rest : d.Rest
  pub base : Base w k

abbrev pub step : (w : Words) (k : UnitMap w) (d : Calls w k) → State w k d → d.Asked → State w k d
step w k d s call = record { rest = d.next s.rest s.base call; base = bare_run w k (d.events s.rest s.base call) s.base }

-- a call, and whether its step was taken
pub record MarkedCall (w : Words) (k : UnitMap w) (d : Calls w k) : Type 0 where
  pub call : d.Asked
  pub is_taken : Bool

abbrev pub replay : (w : Words) (k : UnitMap w) (d : Calls w k) → List (MarkedCall w k d) → State w k d → State w k d
replay w k d [] s = s
replay w k d (c ∷ cs) s = replay w k d cs (if c.is_taken then step w k d s c.call else s)

-- ---- what is asked of its calls

-- the unit is committed or left
abbrev pub Ends : (w : Words) (k : UnitMap w) → k.Owner → List (Event w k) → Type 0
Ends w k o [] = ⊥
Ends w k o (Ask p call ∷ es) = Ends w k o es
Ends w k o (Commit p ∷ es) = (o ≡ p) ⊎ Ends w k o es
Ends w k o (Leave p ∷ es) = (o ≡ p) ⊎ Ends w k o es

-- none of these owners is asked
abbrev pub AsksOf : (w : Words) (k : UnitMap w) → (k.Owner → Bool) → List (Event w k) → Type 0
AsksOf w k closed [] = Unit {0}
AsksOf w k closed (Ask p call ∷ es) = (closed p ≡ false) × AsksOf w k closed es
AsksOf w k closed (Commit p ∷ es) = AsksOf w k closed es
AsksOf w k closed (Leave p ∷ es) = AsksOf w k closed es

-- a unit in doubt is asked nothing, and is in doubt until it is committed or left
pub record CallLaws (w : Words) (k : UnitMap w) (d : Calls w k) : Type 0 where
  pub asks : (x : d.Rest) (b : Base w k) (call : d.Asked) → AsksOf w k (d.prepared x) (d.events x b call)
  pub stays : (x : d.Rest) (b : Base w k) (call : d.Asked) (o : k.Owner) → d.prepared x o ≡ true → (d.prepared (d.next x b call) o ≡ true) ⊎ Ends w k o (d.events x b call)

-- ---- the law over calls

-- a state with the logs
pub record Story (w : Words) (k : UnitMap w) (d : Calls w k) : Type 0 where
  pub rest : d.Rest
  pub world : World w k

abbrev pub told : (w : Words) (k : UnitMap w) (d : Calls w k) → Story w k d → d.Asked → Story w k d
told w k d s call = record { rest = d.next s.rest (forget w k s.world) call; world = run_events w k (d.events s.rest (forget w k s.world) call) s.world }

abbrev pub story : (w : Words) (k : UnitMap w) (d : Calls w k) → List (MarkedCall w k d) → Story w k d → Story w k d
story w k d [] s = s
story w k d (c ∷ cs) s = story w k d cs (if c.is_taken then told w k d s c.call else s)

-- an opening whose units are all in doubt, as the rest has it; then any calls. The story is that of the
-- replay, and the units committed in it lead, one after another, to the replay's store.
abbrev pub SerialOrderOf : (w : Words) (k : UnitMap w) → Calls w k → Type 0
SerialOrderOf w k d =
    (x : d.Rest) (s : w.Store) (units : k.Units) (calls : List (MarkedCall w k d)) → w.Sound s → AllLie w k s units → ((o : k.Owner) → k.has o units ≡ true → d.prepared x o ≡ true)
    → (let end = story w k d calls (record { rest = x; world = start w k s units }) in
    let real = replay w k d calls (record { rest = x; base = record { store = s; units = units } }) in
    Serially w s end.world.ended real.base.store × (forget w k end.world ≡ real.base) × (end.rest ≡ real.rest))
