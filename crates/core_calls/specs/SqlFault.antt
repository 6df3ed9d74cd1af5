-- Each fault of a statement with its SQLCODE and its SQLSTATE. The codes are DB2's, the states those of
-- ISO/IEC 9075-2 with DB2's subclasses.
use Rattle.std.specs.Prelude.{ℕ, List, codes}
use Rattle.core_calls.specs.declared.sql_fault.SqlFault.{SqlFault}
use Rattle.core_calls.specs.declared.sql_fault.SqlFault.TheVariants.{Syntax, TableUnknown, ColumnUnknown, ParameterMismatch, TypeMismatch, NullGiven, OutOfRange, TooLong, NotPrepared, TableExists, KeyExists, LimitReached, Claimed}

-- the SQLCODE is minus the number
pub record Diagnosis : Type 0 where
  pub number : ℕ
  pub state : List ℕ

abbrev pub diagnosis : SqlFault → Diagnosis
diagnosis Syntax = record { number = 104; state = codes "42601" }
diagnosis TableUnknown = record { number = 204; state = codes "42704" }
diagnosis ColumnUnknown = record { number = 206; state = codes "42703" }
diagnosis ParameterMismatch = record { number = 313; state = codes "07001" }
diagnosis TypeMismatch = record { number = 401; state = codes "42818" }
diagnosis NullGiven = record { number = 407; state = codes "23502" }
diagnosis OutOfRange = record { number = 413; state = codes "22003" }
diagnosis TooLong = record { number = 433; state = codes "22001" }
diagnosis NotPrepared = record { number = 518; state = codes "07003" }
diagnosis TableExists = record { number = 601; state = codes "42710" }
diagnosis KeyExists = record { number = 803; state = codes "23505" }
diagnosis LimitReached = record { number = 904; state = codes "57011" }
diagnosis Claimed = record { number = 913; state = codes "57033" }
