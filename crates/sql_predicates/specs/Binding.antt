-- What binding answers: what is bound, or the fault of the statement.
use Rattle.std.specs.Prelude.{◌≡◌, Option, Some, None, Result, Ok, Err}
use Rattle.core_calls.specs.declared.sql_fault.SqlFault.{SqlFault}
use Rattle.core_calls.specs.declared.statement_error.StatementError.{StatementError}
use Rattle.core_calls.specs.declared.statement_error.StatementError.TheVariants.{Fault, NoMemory}

-- it is refused for this fault where there is one, and only then; want of memory may come in its place
abbrev pub RefusedFor : {A : Type 0} → Option SqlFault → Result A StatementError → Type 0
RefusedFor fault (Ok bound) = fault ≡ None
RefusedFor fault (Err (Fault e)) = fault ≡ Some e
RefusedFor fault (Err NoMemory) = Unit {0}
