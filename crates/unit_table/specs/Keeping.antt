-- What becomes of a unit whose question is done: what it claims and changes is kept together, or nothing is.
use Rattle.std.specs.Prelude.{◌≡◌, true, false, List, Result, Ok, Err}
use Rattle.tables.specs.Change.{Change}
use Rattle.unit_locks.specs.Claim.{Claim}
use Rattle.unit_locks.specs.Claims.{all_added}
use Rattle.core_model.specs.Units.{Held, Owner, is_full, set_unit, unit_of}
use Rattle.core_model.specs.Asked.{kept}
use Rattle.unit_table.specs.declared.keep_error.KeepError.{KeepError}
use Rattle.unit_table.specs.declared.keep_error.KeepError.TheVariants as error

-- the claims that an owner's unit has with these
abbrev pub claims_with : List Held → Owner → List Claim → List Claim
claims_with units o claims = all_added (unit_of o units).claims claims

pub record KeepsAll (o : Owner) (claims : List Claim) (changes : List Change) (old new : List Held) : Type 0 where
  pub room : is_full (claims_with old o claims) ≡ false
  pub units : new ≡ set_unit o (kept (unit_of o old) claims changes) old

pub record IsTooMany (o : Owner) (claims : List Claim) (old new : List Held) : Type 0 where
  pub full : is_full (claims_with old o claims) ≡ true
  pub units : new ≡ old

abbrev pub Keeps : {T : Type 0} → Result T KeepError → Owner → List Claim → List Change → List Held → List Held → Type 0
Keeps (Ok x) o claims changes old new = KeepsAll o claims changes old new
Keeps (Err error.TooMany) o claims changes old new = IsTooMany o claims old new
Keeps (Err error.NoMemory) o claims changes old new = new ≡ old

-- the same of the claims alone
pub record AddsAll (claims old new : List Claim) : Type 0 where
  pub room : is_full (all_added old claims) ≡ false
  pub added : new ≡ all_added old claims

pub record IsFullWith (claims old new : List Claim) : Type 0 where
  pub full : is_full (all_added old claims) ≡ true
  pub same : new ≡ old

abbrev pub Adds : {T : Type 0} → Result T KeepError → List Claim → List Claim → List Claim → Type 0
Adds (Ok x) claims old new = AddsAll claims old new
Adds (Err error.TooMany) claims old new = IsFullWith claims old new
Adds (Err error.NoMemory) claims old new = new ≡ old
