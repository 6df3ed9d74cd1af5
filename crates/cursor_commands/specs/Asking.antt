-- A query that was asked of the core.
use Rattle.std.specs.Prelude.{List, Result, Ok, Err}
use Rattle.sql_text.specs.declared.tree.Statement.{Statement}
use Rattle.row_values.specs.Value.{Value}
use Rattle.core_calls.specs.Answer.{Answer}
use Rattle.core_calls.specs.Call.{Call, query}
use Rattle.core_calls.specs.declared.sql_fault.SqlFault.{SqlFault}

-- it is one, and the core was asked it and gave this answer
abbrev pub WasQueried : {A : Type 0} → (A → Call → Answer → A → Type 0) → Result (Statement × List Value) SqlFault → Answer → A → A → Type 0
WasQueried asks (Ok q) answer old new = asks old (query q.0 q.1) answer new
WasQueried asks (Err f) answer old new = ⊥
