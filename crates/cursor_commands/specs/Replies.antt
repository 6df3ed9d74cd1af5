-- The replies that commands on cursors have (DRDA V5 volume 3: OPNQRYRM, OPNQFLRM, ENDQRYRM, QRYNOPRM, QRYPOPRM,
-- QRYDSC, QRYDTA); rdb is the database's name as it is answered.
use Rattle.std.specs.Prelude.{ℕ, Bool, List, [], ◌∷◌}
use Rattle.std.specs.Int.{to_be_bytes, w16, w64}
use Rattle.ddm_objects.specs.declared.code_point.TheConstants.{ENDQRYRM, LMTBLKPRC, OPNQFLRM, OPNQRYRM, PKGNAMCSN, QRYINSID, QRYNOPRM, QRYPOPRM, QRYPRCTYP, RDBNAM, SQLCSRHLD}
use Rattle.sqlam_replies.specs.Message.{error, held_mark, info, scalar, warning}
use Rattle.sqlam_replies.specs.Rows.{qrydsc, qrydta}
use Rattle.tables.specs.RowList.{RowList}
use Rattle.core_calls.specs.declared.sql_fault.SqlFault.{SqlFault}
use Rattle.sqlam_replies.specs.Reply.{Reply, message, object}
use Rattle.command_kit.specs.Reply.{fault_card, not_found_card}

-- the query of the section of this name is not open, or is open
abbrev pub query_not_open : List ℕ → List ℕ → Reply
query_not_open rdb name = message (record { code = QRYNOPRM; severity = error; parameters = scalar RDBNAM rdb ∷ scalar PKGNAMCSN name ∷ [] })

abbrev pub query_open : List ℕ → List ℕ → Reply
query_open rdb name = message (record { code = QRYPOPRM; severity = error; parameters = scalar RDBNAM rdb ∷ scalar PKGNAMCSN name ∷ [] })

-- a query that is not opened, and why
abbrev pub open_failed : List ℕ → SqlFault → List Reply
open_failed rdb fault = message (record { code = OPNQFLRM; severity = error; parameters = scalar RDBNAM rdb ∷ [] }) ∷ fault_card fault ∷ []

-- a cursor is open, held or not, and which opening of the conversation that was
abbrev pub query_opened : Bool → ℕ → Reply
query_opened is_held instance = message (record {
  code = OPNQRYRM;
  severity = info;
  parameters = scalar QRYPRCTYP (to_be_bytes w16 LMTBLKPRC) ∷ scalar SQLCSRHLD (held_mark is_held ∷ []) ∷ scalar QRYINSID (to_be_bytes w64 instance) ∷ [];
})

-- what describes rows, and so many of them from a place on
abbrev pub rows_description : RowList → Reply
rows_description rows = object (qrydsc rows)

abbrev pub some_rows : RowList → ℕ → ℕ → Reply
some_rows rows place count = object (qrydta rows place count)

-- no row is left: ENDQRYRM and SQLCODE 100
abbrev pub end_of_query : List Reply
end_of_query = message (record { code = ENDQRYRM; severity = warning; parameters = [] }) ∷ not_found_card ∷ []
