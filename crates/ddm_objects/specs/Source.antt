-- Objects that lie in a source, each with its place there.
use Rattle.std.specs.Prelude.{◌≡◌, ◌≢◌, ℕ, ◌<◌, List, [], ◌∷◌, length, drop, Option, Some, None, Result, Ok, Err}
use Rattle.drda_words.specs.Place.{StandsAt}
use Rattle.ddm_objects.specs.declared.fault.ObjFault.{ObjFault}
use Rattle.ddm_objects.specs.declared.fault.FindFault.{FindFault}
use Rattle.ddm_objects.specs.declared.fault.FindFault.TheVariants.{Twice, Fault}
use Rattle.ddm_objects.specs.declared.object.Object.{Object}
use Rattle.ddm_objects.specs.declared.parts.Parts.{Parts}
use Rattle.ddm_objects.specs.Objects.{Obj, Begins}
use Rattle.ddm_objects.specs.Reading.{object_at, walk, walk_end, walk_stop, walk_past, with_code}

-- an object without its place
abbrev pub view : Object → Obj
view o = record { code = o.code; value = o.value.now }

-- the object's data are the slice of the source from its place on, and what follows them is the rest
pub record LiesBefore (source : List ℕ) (o : Object) (rest : List ℕ) : Type 0 where
  pub stands : StandsAt source o.at o.value.now
  pub follows : rest ≡ drop (length o.value.now) (drop o.at source)

-- the object is one of those that the source begins with, at its place
pub record LiesIn (source : List ℕ) (o : Object) : Type 0 where
  pub earlier : List Obj
  pub text : List ℕ
  pub rest : List ℕ
  pub begins : Begins source earlier text
  pub here : object_at text ≡ Ok (view o, rest)
  pub place : LiesBefore source o rest

-- what a walk over a source has still to read, and the source
abbrev pub rest_of : Parts → List ℕ
rest_of p = drop p.at p.source.now

abbrev pub source_of : Parts → List ℕ
source_of p = p.source.now

-- a step of a walk at the end of the source
pub record AtEnd (old new : Parts) : Type 0 where
  pub nothing_left : rest_of old ≡ []
  pub walked : walk (rest_of old) ≡ walk_end
  pub ended : rest_of new ≡ []
  pub source : source_of new ≡ source_of old

-- a step of a walk that gives the next object
pub record Passes (old : Parts) (o : Object) (new : Parts) : Type 0 where
  pub here : object_at (rest_of old) ≡ Ok (view o, rest_of new)
  pub walked : walk (rest_of old) ≡ walk_past (view o) (walk (rest_of new))
  pub place : LiesBefore (source_of old) o (rest_of new)
  pub source : source_of new ≡ source_of old

-- a step of a walk that gives the fault at its place, with nothing after it
pub record Stops (old : Parts) (f : ObjFault) (new : Parts) : Type 0 where
  pub something_left : rest_of old ≢ []
  pub here : object_at (rest_of old) ≡ Err f
  pub walked : walk (rest_of old) ≡ walk_stop f
  pub ended : rest_of new ≡ []
  pub source : source_of new ≡ source_of old

-- one step of a walk
abbrev pub Steps : Parts → Option (Result Object ObjFault) → Parts → Type 0
Steps old None new = AtEnd old new
Steps old (Some (Ok o)) new = Passes old o new
Steps old (Some (Err f)) new = Stops old f new

-- What a search for a code point among the objects of a source answers: a fault anywhere comes first, then
-- that the code point occurs more than once.
abbrev pub Finds : List ℕ → ℕ → Result (Option Object) FindFault → Type 0
Finds source code (Ok None) = ((walk source).fault ≡ None) × (with_code code (walk source).objects ≡ [])
Finds source code (Ok (Some o)) = ((walk source).fault ≡ None) × (with_code code (walk source).objects ≡ view o ∷ []) × LiesIn source o
Finds source code (Err Twice) = ((walk source).fault ≡ None) × (1 < length (with_code code (walk source).objects))
Finds source code (Err (Fault f)) = (walk source).fault ≡ Some f
