-- The replies that SQL commands have, each in a DSS of its own (DRDA V5 volume 3: the reply messages,
-- SQLCARD and SQLDARD).
use Rattle.std.specs.Prelude.{ℕ, pos, neg_ℤ, ◌==◌, Bool, true, if◌then◌else◌, codes, List, [], ◌∷◌, map}
use Rattle.ddm_objects.specs.declared.code_point.TheConstants.{RDBNAM, UOWDSP, RSCLMTRM, AGNPRMRM, CMDVLTRM, ENDUOWRM, RDBUPDRM}
use Rattle.sqlam_replies.specs.declared.message.UnitEnd.{UnitEnd}
use Rattle.sqlam_replies.specs.Message.{disposition, error, info, permanent_damage, scalar, warning}
use Rattle.sqlam_replies.specs.Reply.{Reply, message, object}
use Rattle.sqlam_replies.specs.Sqlcard.{null_sqlcard, sqlcard}
use Rattle.sqlam_replies.specs.Sqldard.{sqldard}
use Rattle.row_values.specs.Column.{Column}
use Rattle.core_calls.specs.SqlFault.{diagnosis}
use Rattle.core_calls.specs.declared.sql_fault.SqlFault.{SqlFault}
use Rattle.core_calls.specs.declared.described.ParameterType.{ParameterType}

-- ---- reply messages; rdb is the database's name as it is answered

abbrev pub rdb_updated : List ℕ → Reply
rdb_updated rdb = message (record { code = RDBUPDRM; severity = info; parameters = scalar RDBNAM rdb ∷ [] })

abbrev pub command_violation : List ℕ → Reply
command_violation rdb = message (record { code = CMDVLTRM; severity = error; parameters = scalar RDBNAM rdb ∷ [] })

abbrev pub unit_ended : UnitEnd → Reply
unit_ended end = message (record { code = ENDUOWRM; severity = warning; parameters = scalar UOWDSP (disposition end ∷ []) ∷ [] })

-- memory or room is missing
abbrev pub resource_limit : Reply
resource_limit = message (record { code = RSCLMTRM; severity = error; parameters = [] })

-- the core can't go on
abbrev pub agent_failed : Reply
agent_failed = message (record { code = AGNPRMRM; severity = permanent_damage; parameters = [] })

-- ---- SQLCARD

abbrev pub null_card : Reply
null_card = object null_sqlcard

abbrev pub fault_card : SqlFault → Reply
fault_card fault = object (sqlcard (neg_ℤ (pos (diagnosis fault).number)) (diagnosis fault).state 0)

-- so many rows were changed
abbrev pub changed_card : ℕ → Reply
changed_card count = object (sqlcard (pos 0) (codes "00000") count)

-- no row was found: SQLCODE 100
abbrev pub not_found_card : Reply
not_found_card = object (sqlcard (pos 100) (codes "02000") 0)

-- an UPDATE or a DELETE may find no row
abbrev pub count_card : Bool → ℕ → Reply
count_card is_search count = if is_search then (if count == 0 then not_found_card else changed_card count) else changed_card count

-- ---- SQLDARD

abbrev pub description : Bool → List Column → Reply
description unicode columns = object (sqldard unicode columns)

-- a parameter is described as a column without a name that takes NULL
abbrev pub parameter_column : ParameterType → Column
parameter_column t = record { name = []; kind = t.kind; is_nullable = true; limit = t.limit }

abbrev pub parameter_columns : List ParameterType → List Column
parameter_columns types = map parameter_column types
