-- What copying the state makes of a core: it is read, and no more.
use Rattle.std.specs.Prelude.{◌≡◌, Bool, true, false, Result, Ok, Err}
use Rattle.ahead_view.specs.declared.source.ReadError.{ReadError}
use Rattle.ahead_view.specs.declared.source.ReadError.TheVariants as error
use Rattle.durable_core.specs.declared.plain_error.PlainError.{PlainError}
use Rattle.durable_core.specs.declared.plain_error.PlainError.TheVariants as none
use Rattle.recovery.specs.Journaled.{FaultsAfter, IsRead, IsUnchanged, Shown}

-- all is as it was, whatever was read
pub record IsLooked (old new : Shown) : Type 0 where
  pub going : old.is_failed ≡ false
  pub same : IsRead old new

-- the device failed in a read, or gave what is no page
pub record FailsLooking (modelled : Bool) (old new : Shown) : Type 0 where
  pub going : old.is_failed ≡ false
  pub name : new.name ≡ old.name
  pub state : new.state ≡ old.state
  pub layout : new.layout ≡ old.layout
  pub room : new.room ≡ old.room
  pub faults : FaultsAfter modelled true old.disk.faults new.disk.faults
  pub failed : new.is_failed ≡ true
  pub made : new.made ≡ old.made

-- it had failed before: nothing is done
pub record IsClosed (old new : Shown) : Type 0 where
  pub failed : old.is_failed ≡ true
  pub same : IsUnchanged old new

-- what is told of a copy that was made, or was not
abbrev pub told : {T : Type 0} → Result T ReadError → Result T PlainError
told (Ok x) = Ok x
told (Err error.NoMemory) = Err none.NoMemory
told (Err error.DeviceFailed) = Err none.DeviceFailed

abbrev pub Copies : {T : Type 0} → Bool → Result T PlainError → Shown → Shown → Type 0
Copies modelled (Ok x) old new = IsLooked old new
Copies modelled (Err none.NoMemory) old new = IsLooked old new
Copies modelled (Err none.DeviceFailed) old new = FailsLooking modelled old new
Copies modelled (Err none.Closed) old new = IsClosed old new
