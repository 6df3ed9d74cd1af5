-- A core that knows nothing of its branches but which are prepared.
use Rattle.std.specs.Prelude.{Bool, true, false, List, [], ◌∷◌, if◌then◌else◌}
use Rattle.serializability.specs.Words.{Words}
use Rattle.serializability.specs.Events.{UnitMap, Event, Ask, Commit, Leave}
use Rattle.serializability.specs.Steps.{Calls}

pub data UnitCall (w : Words) (k : UnitMap w) : Type 0 where
  Does : Event w k → UnitCall w k
  Prepares : (owner : k.Owner) → UnitCall w k

abbrev pub marked : (w : Words) (k : UnitMap w) → k.Owner → Bool → (k.Owner → Bool) → k.Owner → Bool
marked w k o is prepared c = if k.same c o then is else prepared c

-- a prepared unit is asked nothing
abbrev pub call_events : (w : Words) (k : UnitMap w) → (k.Owner → Bool) → UnitCall w k → List (Event w k)
call_events w k prepared (Does (Ask o call)) = if prepared o then [] else Ask o call ∷ []
call_events w k prepared (Does (Commit o)) = Commit o ∷ []
call_events w k prepared (Does (Leave o)) = Leave o ∷ []
call_events w k prepared (Prepares o) = []

-- it is prepared until it is committed or left
abbrev pub after_call : (w : Words) (k : UnitMap w) → (k.Owner → Bool) → UnitCall w k → k.Owner → Bool
after_call w k prepared (Does (Ask o call)) = prepared
after_call w k prepared (Does (Commit o)) = marked w k o false prepared
after_call w k prepared (Does (Leave o)) = marked w k o false prepared
after_call w k prepared (Prepares o) = marked w k o true prepared

abbrev pub prepared_units : (w : Words) (k : UnitMap w) → Calls w k
prepared_units w k = record {
  Asked = UnitCall w k;
  Rest = k.Owner → Bool;
  events = λ prepared b call. call_events w k prepared call;
  next = λ prepared b call. after_call w k prepared call;
  prepared = λ prepared o. prepared o;
}
