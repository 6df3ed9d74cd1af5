-- The committed store and the units, and what happens to them.
use Rattle.std.specs.Prelude.{List, [], ◌∷◌}
use Rattle.tables.specs.Tables.{Store}
use Rattle.core_model.specs.Units.{Held, Owner, others, set_unit, unit_of, view, without}
use Rattle.core_model.specs.Asked.{Clashes, Done, Outcome, Question, TooMany, Unfit, asked}

pub record Base : Type 0 where
  pub store : Store
  pub units : List Held

-- a unit asks; its changes are made and it ends; it ends without them
pub data Event : Type 0 where
  Ask : Owner → Question → Event
  Commit : Owner → Event
  Leave : Owner → Event

-- what an owner's unit is told
abbrev pub asked_of : Base → Owner → Question → Outcome
asked_of b o q = asked (others o b.units) b.store (unit_of o b.units) q

abbrev pub happens_asked : Base → Owner → Outcome → Base
happens_asked b o (Unfit f) = b
happens_asked b o Clashes = b
happens_asked b o TooMany = b
happens_asked b o (Done a u) = record { store = b.store; units = set_unit o u b.units }

abbrev pub bare : Base → Event → Base
bare b (Ask o q) = happens_asked b o (asked_of b o q)
bare b (Commit o) = record { store = view b.store (unit_of o b.units); units = without o b.units }
bare b (Leave o) = record { store = b.store; units = without o b.units }

abbrev pub bare_run : List Event → Base → Base
bare_run [] b = b
bare_run (e ∷ es) b = bare_run es (bare b e)
