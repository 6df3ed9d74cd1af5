-- Units of work, and what becomes of them. An owner has one unit: a conversation its local one, a branch
-- its global one. Beside the store and the units stand here, for the law alone, each unit's calls
-- with their answers, and the units that were committed.
use Rattle.std.specs.Prelude.{◌≡◌, Bool, true, false, List, [], ◌∷◌, ◌++◌, if◌then◌else◌}
use Rattle.serializability.specs.Words.{In, Words, apply_all, clashes}

-- a unit
pub record Work (w : Words) : Type 0 where
  pub changes : List w.Change
  pub claims : List w.Claim

abbrev pub idle : (w : Words) → Work w
idle w = record { changes = []; claims = [] }

-- what a unit sees: the store with its own changes
abbrev pub view : (w : Words) → w.Store → Work w → w.Store
view w s u = apply_all w u.changes s

-- ---- a call of a unit

pub data Outcome (w : Words) : Type 0 where
  -- a claim clashes with one of another unit
  Clashes : Outcome w
  -- the unit would have too many claims
  TooMany : Outcome w
  -- the answer, and the unit with what was claimed and changed
  Done : w.Answer → Work w → Outcome w

-- by what the call claims, answers and changes, and what the other units claim
abbrev pub outcome : (w : Words) → List w.Claim → Work w → List w.Claim → w.Answer → List w.Change → Outcome w
outcome w others u cs a xs =
    if clashes w cs others then Clashes else if w.is_full (w.added u.claims cs) then TooMany else Done a (record { changes = u.changes ++ xs; claims = w.added u.claims cs })

abbrev pub asked : (w : Words) → List w.Claim → w.Store → Work w → w.Call → Outcome w
asked w others s u call =
    outcome w others u (w.claims call (view w s u)) (w.answer call u.changes (view w s u)) (w.changes call u.changes (view w s u))

-- the unit after a call that was done
abbrev pub kept : (w : Words) → w.Store → Work w → w.Call → Work w
kept w s u call = record { changes = u.changes ++ w.changes call u.changes (view w s u); claims = w.added u.claims (w.claims call (view w s u)) }

-- ---- the units of all owners

-- how units are kept by their owners: as a list, a sorted one, or a map
pub record UnitMap (w : Words) : Type 1 where
  pub Owner : Type 0
  pub same : Owner → Owner → Bool
  pub Units : Type 0
  -- who has none has an idle one
  pub unit_of : Owner → Units → Work w
  pub set_unit : Owner → Work w → Units → Units
  pub without : Owner → Units → Units
  -- the claims of all other units
  pub others : Owner → Units → List w.Claim
  pub has : Owner → Units → Bool

pub record UnitMapLaws (w : Words) (k : UnitMap w) : Type 0 where
  pub same_itself : (o : k.Owner) → k.same o o ≡ true
  pub same_is : (c o : k.Owner) → k.same c o ≡ true → c ≡ o
  pub set_here : (o : k.Owner) (u : Work w) (units : k.Units) → k.unit_of o (k.set_unit o u units) ≡ u
  pub set_elsewhere : (c o : k.Owner) (u : Work w) (units : k.Units) → k.same c o ≡ false → k.unit_of c (k.set_unit o u units) ≡ k.unit_of c units
  pub gone : (o : k.Owner) (units : k.Units) → k.unit_of o (k.without o units) ≡ idle w
  pub stays : (c o : k.Owner) (units : k.Units) → k.same c o ≡ false → k.unit_of c (k.without o units) ≡ k.unit_of c units
  pub others_has : (c o : k.Owner) (units : k.Units) (x : w.Claim) → k.same c o ≡ false → In x (k.unit_of c units).claims → In x (k.others o units)
  pub has_not : (o : k.Owner) (units : k.Units) → k.has o units ≡ false → k.unit_of o units ≡ idle w

-- ---- events

-- a call, a commit, an end without a commit. A unit that is prepared stays as it is: its changes and all
-- its claims, reading ones too.
pub data Event (w : Words) (k : UnitMap w) : Type 0 where
  Ask : (owner : k.Owner) → w.Call → Event w k
  Commit : (owner : k.Owner) → Event w k
  Leave : (owner : k.Owner) → Event w k

-- a call that was done, and what it was answered
pub record Entry (w : Words) : Type 0 where
  pub call : w.Call
  pub answer : w.Answer

-- a unit that was committed: the calls that it made, or that the opening found it in doubt; and what it was
pub record Ended (w : Words) : Type 0 where
  pub is_found : Bool
  pub log : List (Entry w)
  pub work : Work w

-- found says which units have been in doubt since the opening
pub record World (w : Words) (k : UnitMap w) : Type 0 where
  pub store : w.Store
  pub units : k.Units
  pub logs : k.Owner → List (Entry w)
  pub found : k.Owner → Bool
  pub ended : List (Ended w)

abbrev pub log_set : (w : Words) (k : UnitMap w) → k.Owner → List (Entry w) → (k.Owner → List (Entry w)) → k.Owner → List (Entry w)
log_set w k o log logs c = if k.same c o then log else logs c

abbrev pub lost : (w : Words) (k : UnitMap w) → k.Owner → (k.Owner → Bool) → k.Owner → Bool
lost w k o found c = if k.same c o then false else found c

-- a call that is refused leaves all as it was
abbrev pub asked_in : (w : Words) (k : UnitMap w) → World w k → k.Owner → w.Call → Outcome w → World w k
asked_in w k m o call Clashes = m
asked_in w k m o call TooMany = m
asked_in w k m o call (Done a u) =
    record { store = m.store; units = k.set_unit o u m.units; logs = log_set w k o (m.logs o ++ record { call = call; answer = a } ∷ []) m.logs; found = m.found; ended = m.ended }

-- of a unit that the opening found in doubt nothing is asked
abbrev pub happens : (w : Words) (k : UnitMap w) → World w k → Event w k → World w k
happens w k m (Ask o call) = if m.found o then m else asked_in w k m o call (asked w (k.others o m.units) m.store (k.unit_of o m.units) call)
happens w k m (Commit o) =
    record {
      store = view w m.store (k.unit_of o m.units);
      units = k.without o m.units;
      logs = log_set w k o [] m.logs;
      found = lost w k o m.found;
      ended = m.ended ++ record { is_found = m.found o; log = m.logs o; work = k.unit_of o m.units } ∷ [];
    }
happens w k m (Leave o) = record { store = m.store; units = k.without o m.units; logs = log_set w k o [] m.logs; found = lost w k o m.found; ended = m.ended }

-- an event, and whether it was taken: what was answered by want of memory, of room or of a device was not
pub record Moment (w : Words) (k : UnitMap w) : Type 0 where
  pub event : Event w k
  pub is_taken : Bool

abbrev pub run : (w : Words) (k : UnitMap w) → List (Moment w k) → World w k → World w k
run w k [] m = m
run w k (e ∷ es) m = run w k es (if e.is_taken then happens w k m e.event else m)

-- what an opening gives: a store, and units in doubt
abbrev pub start : (w : Words) (k : UnitMap w) → w.Store → k.Units → World w k
start w k s units = record { store = s; units = units; logs = λ c. []; found = λ c. k.has c units; ended = [] }
