-- The fault that each refusal of a statement is told as.
use Rattle.core_calls.specs.declared.refusal.Refusal.{Refusal}
use Rattle.core_calls.specs.declared.refusal.Refusal.TheVariants as refusal
use Rattle.core_calls.specs.declared.sql_fault.SqlFault.{SqlFault}
use Rattle.core_calls.specs.declared.sql_fault.SqlFault.TheVariants as fault

abbrev pub fault_of : Refusal → SqlFault
fault_of (refusal.Unfit f) = f
fault_of refusal.Clashes = fault.Claimed
fault_of refusal.TooManyClaims = fault.LimitReached
fault_of (refusal.Meaning f) = f
