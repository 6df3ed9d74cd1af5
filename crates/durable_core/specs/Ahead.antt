-- What laying records ahead makes of a core, and settling: its disk may be written, and the device may fail, but all else stays.
use Rattle.std.specs.Prelude.{◌≡◌, ◌⊎◌, ℕ, Bool, true, false, IsTrue, List}
use Rattle.drda_disk.specs.Disk.{Life, Now, Torn}
use Rattle.early_disk.specs.Early.{LeavesNow, Parts, life_of}
use Rattle.core_model.specs.Step.{CoreState}
use Rattle.unit_records.specs.Together.{all_made, may_make}
use Rattle.unit_records.specs.declared.group_call.GroupCall.{GroupCall}
use Rattle.recovery.specs.Durable.{Durable}
use Rattle.recovery.specs.Opens.{OpensTo}
use Rattle.recovery.specs.Part.{durable_part}
use Rattle.recovery.specs.Journaled.{FaultsAfter, Shown, StaysFailed}

pub record StaysAhead (modelled : Bool) (old new : Shown) : Type 0 where
  pub name : new.name ≡ old.name
  pub state : new.state ≡ old.state
  pub layout : new.layout ≡ old.layout
  pub room : new.room ≡ old.room
  pub made : new.made ≡ old.made
  -- one device call more has failed exactly where the core has failed now
  pub faults : old.is_failed ≡ false → FaultsAfter modelled new.is_failed old.disk.faults new.disk.faults
  -- and no device call is made by one that had failed
  pub failed : old.is_failed ≡ true → StaysFailed old new

-- An image opens to what is durable of a core to which another opens, or to that behind calls that it may make together, all of them.
pub record OpensEarly (base image : List ℕ) : Type 0 where
  pub name : List ℕ
  pub core : CoreState
  pub calls : List GroupCall
  pub may : may_make core calls ≡ true
  pub opens : OpensTo name (durable_part core) base
  pub either : OpensTo name (durable_part core) image ⊎ OpensTo name (durable_part (all_made calls core)) image

-- these may be left besides each that a crash may leave else
abbrev pub LetsOpenEarly : (List ℕ → List ℕ → Type 0) → Type 0
LetsOpenEarly allows = (base image : List ℕ) → OpensEarly base image → allows base image

-- An image opens to what is durable behind calls that a core may make together of which d is durable, all of them; but for one byte it is
-- this one.
pub record OpensBehind (name : List ℕ) (d : Durable) (base image : List ℕ) : Type 0 where
  pub core : CoreState
  pub durable : durable_part core ≡ d
  pub calls : List GroupCall
  pub may : may_make core calls ≡ true
  pub opens : OpensTo name (durable_part (all_made calls core)) image
  pub place : ℕ
  pub one : Torn place 1 base image

-- Where all that is shown opens to d, each image that the disk inside may leave opens to that, or, but for one byte an image that is shown,
-- behind calls that are made together.
abbrev pub EarlyUnitsAreWhole : {D : Type 0} → Bool → (D → Life) → Type 0
EarlyUnitsAreWhole {D} modelled life =
    (p : Parts D) (name : List ℕ) (d : Durable) → IsTrue modelled → ((c : List ℕ) → Now (life_of modelled life p) c → OpensTo name d c) → LeavesNow modelled life OpensEarly p
    → (c : List ℕ) → Now (life p.inner) c → OpensTo name d c ⊎ ((base : List ℕ) × Now (life_of modelled life p) base × OpensBehind name d base c)
