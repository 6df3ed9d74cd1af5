-- Damage that a check tells.
use Rattle.std.specs.Prelude.{Result, Ok, Err}
use Rattle.store_check.specs.declared.errors.CheckError.{CheckError}
use Rattle.store_check.specs.declared.errors.CheckError.TheVariants.{NoMemory, DeviceFailed, Damaged}

-- damage is told only where this holds
abbrev pub DamagedOnly : {T : Type 0} → Type 0 → Result T CheckError → Type 0
DamagedOnly P (Ok x) = Unit {0}
DamagedOnly P (Err (Damaged here)) = P
DamagedOnly P (Err NoMemory) = Unit {0}
DamagedOnly P (Err DeviceFailed) = Unit {0}
