-- Why a statement is not answered.
use Rattle.std.specs.Prelude.{Option, Some, None}
use Rattle.core_calls.specs.declared.sql_fault.SqlFault.{SqlFault}
use Rattle.core_calls.specs.declared.statement_error.StatementError.{StatementError}
use Rattle.core_calls.specs.declared.statement_error.StatementError.TheVariants.{Fault, NoMemory}

-- want of memory is no fault
abbrev pub fault_of : StatementError → Option SqlFault
fault_of (Fault e) = Some e
fault_of NoMemory = None
