-- Which faults tell of damage.
use Rattle.std.specs.Prelude.{◌≡◌, Bool, false, true}
use Rattle.std.proofs.Common.{ap}
use Rattle.tables.specs.declared.plain_view.PlainFault.{PlainFault}
use Rattle.tables.specs.declared.plain_view.PlainFault.TheVariants.{Damaged, NoMemory}

abbrev pub is_damage : PlainFault → Bool
is_damage NoMemory = false
is_damage Damaged = true

-- want of memory is none
pub no_damage : (fault : PlainFault) → fault ≡ NoMemory → is_damage fault ≡ false
no_damage fault is = ap is_damage is
