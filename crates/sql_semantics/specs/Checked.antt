-- What is checked step by step: the first fault counts.
use Rattle.std.specs.Prelude.{Bool, if◌then◌else◌, List, [], ◌∷◌, Option, Some, None, Result, Ok, Err}
use Rattle.row_values.specs.declared.column.Misfit.{Misfit}
use Rattle.row_values.specs.declared.column.Misfit.TheVariants as misfit
use Rattle.core_calls.specs.declared.sql_fault.SqlFault.{SqlFault}
use Rattle.core_calls.specs.declared.sql_fault.SqlFault.TheVariants as fault

-- what the checks give, or the first fault
abbrev pub Checked : Type 0 → Type 0
Checked A = Result A SqlFault

abbrev pub and_then : {A B : Type 0} → Checked A → (A → Checked B) → Checked B
and_then (Ok a) f = f a
and_then (Err e) f = Err e

-- a fault, unless the test holds
abbrev pub unless : {A : Type 0} → Bool → SqlFault → Checked A → Checked A
unless holds fault go = if holds then go else Err fault

abbrev pub if_none : {A : Type 0} → Option SqlFault → Checked A → Checked A
if_none None go = go
if_none (Some e) go = Err e

-- the fault of a check
abbrev pub fault_in : {A : Type 0} → Checked A → Option SqlFault
fault_in (Ok a) = None
fault_in (Err e) = Some e

abbrev pub first_fault : List (Option SqlFault) → Option SqlFault
first_fault [] = None
first_fault (Some e ∷ es) = Some e
first_fault (None ∷ es) = first_fault es

-- why a value does not fit its column
abbrev pub misfit_fault : Misfit → SqlFault
misfit_fault misfit.WrongClass = fault.TypeMismatch
misfit_fault misfit.IsNull = fault.NullGiven
misfit_fault misfit.OutOfRange = fault.OutOfRange
misfit_fault misfit.TooLong = fault.TooLong

abbrev pub fault_or : Option Misfit → Option SqlFault → Option SqlFault
fault_or (Some m) o = Some (misfit_fault m)
fault_or None o = o
