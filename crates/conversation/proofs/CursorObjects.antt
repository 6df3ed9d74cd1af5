-- What commands on cursors are answered are objects.
use Rattle.std.proofs.Common.{◌==◌, ◌+◌, ℕ, Bool, List, [], ◌∷◌, Option, Some, None, Result, Ok, Err, if◌then◌else◌}
use Rattle.std.specs.Prelude.{codes, length, nat_le, pos, unwrap_or}
use Rattle.std.specs.Int.{to_be_bytes, w16, w64}
use Rattle.ddm_objects.specs.declared.code_point.TheConstants.{ENDQRYRM, LMTBLKPRC, OPNQFLRM, OPNQRYRM, PKGNAMCSN, QRYINSID, QRYNOPRM, QRYPOPRM, QRYPRCTYP, RDBNAM, SQLCSRHLD}
use Rattle.core_calls.specs.Answer as core
use Rattle.core_calls.specs.Answer.{refused, rows}
use Rattle.core_calls.specs.Refusal.{fault_of}
use Rattle.core_calls.specs.declared.sql_fault.SqlFault.{SqlFault}
use Rattle.core_calls.specs.declared.sql_fault.SqlFault.TheVariants as fault
use Rattle.row_values.specs.Value.{Value}
use Rattle.tables.specs.RowList.{RowList}
use Rattle.sections.specs.Blocks.{ends_behind}
use Rattle.sections.specs.Cursors.{section_of}
use Rattle.sections.specs.Kept.{Cursor}
use Rattle.sections.specs.declared.fault.OpenFault.{OpenFault}
use Rattle.sections.specs.declared.fault.OpenFault.TheVariants as unopened
use Rattle.sql_text.specs.declared.tree.Statement.{Statement}
use Rattle.sqlam_replies.specs.Message.{error, held_mark, info, scalar, warning}
use Rattle.sqlam_replies.specs.Rows.{rows_text}
use Rattle.drda_commands.specs.Values.{DescribedData}
use Rattle.command_kit.specs.declared.statements.Statements.{Statements}
use Rattle.sqlam_replies.specs.Reply.{Reply}
use Rattle.cursor_commands.specs.Blocks.{rows_in_block}
use Rattle.cursor_commands.specs.Commands as does
use Rattle.cursor_commands.specs.Replies.{end_of_query, open_failed, query_not_open, query_open, query_opened, rows_description, some_rows}
use Rattle.conversation.specs.Laws.{Rows, RowsDescription}
use Rattle.conversation.proofs.SentObjects.{AllSent, IsSent, SendsObjects, both_sent, card_sent, either_sent, fault_sent, message_tree, not_done_sent, null_sent, values_sent}

-- ---- single replies

not_open_sent : (rdb name : List ℕ) → IsSent (query_not_open rdb name)
not_open_sent rdb name = (message_tree (record { code = QRYNOPRM; severity = error; parameters = scalar RDBNAM rdb ∷ scalar PKGNAMCSN name ∷ [] })).0

open_sent : (rdb name : List ℕ) → IsSent (query_open rdb name)
open_sent rdb name = (message_tree (record { code = QRYPOPRM; severity = error; parameters = scalar RDBNAM rdb ∷ scalar PKGNAMCSN name ∷ [] })).0

open_failed_sent : (rdb : List ℕ) (f : SqlFault) → AllSent (open_failed rdb f)
open_failed_sent rdb f = ((message_tree (record { code = OPNQFLRM; severity = error; parameters = scalar RDBNAM rdb ∷ [] })).0, (fault_sent f, tt))

opened_sent : (is_held : Bool) (instance : ℕ) → IsSent (query_opened is_held instance)
opened_sent is_held instance = (message_tree (record {
  code = OPNQRYRM;
  severity = info;
  parameters = scalar QRYPRCTYP (to_be_bytes w16 LMTBLKPRC) ∷ scalar SQLCSRHLD (held_mark is_held ∷ []) ∷ scalar QRYINSID (to_be_bytes w64 instance) ∷ [];
})).0

description_sent : (l : RowList) → IsSent (rows_description l)
description_sent l = values_sent RowsDescription _

rows_sent : (l : RowList) (place count : ℕ) → IsSent (some_rows l place count)
rows_sent l place count = values_sent Rows (rows_text l place count)

end_sent : AllSent end_of_query
end_sent = ((message_tree (record { code = ENDQRYRM; severity = warning; parameters = [] })).0, (card_sent (pos 100) (codes "02000") 0, tt))

ending_sent : (is_last : Bool) → AllSent (does.ending is_last)
ending_sent is_last = either_sent is_last end_of_query [] end_sent tt

first_block_sent : (l : RowList) (count : ℕ) → AllSent (does.first_block l count)
first_block_sent l count =
    let first : List Reply = some_rows l 0 count ∷ [] in
    both_sent (if count == 0 then [] else first) (does.ending (nat_le (length l.rows) count)) (either_sent (count == 0) [] first tt (rows_sent l 0 count, tt)) (ending_sent (nat_le (length l.rows) count))

-- ---- CLSQRY and CNTQRY

pub closed_sent : (rdb : List ℕ) (k : Statements) (name : List ℕ) (cursor : Option Cursor) → AllSent (does.closed_at rdb k name cursor).replies
closed_sent rdb k name None = (not_open_sent rdb name, tt)
closed_sent rdb k name (Some cursor) = (null_sent, tt)

pub fetched_sent : (rdb : List ℕ) (k : Statements) (name : List ℕ) (size : Option ℕ) (cursor : Option Cursor) → AllSent (does.fetched_at rdb k name size cursor).replies
fetched_sent rdb k name size None = (not_open_sent rdb name, tt)
fetched_sent rdb k name size (Some cursor) =
    let number : ℕ = rows_in_block cursor.rows cursor.place (unwrap_or size cursor.block_size) in
    (rows_sent cursor.rows cursor.place number, ending_sent (ends_behind cursor number))

-- ---- OPNQRY

after_query_sent : (rdb : List ℕ) (k : Statements) (name : List ℕ) (size : ℕ) (answer : core.Answer) → AllSent (does.after_query rdb k name size answer).replies
after_query_sent rdb k name size (rows l) =
    (opened_sent (does.is_held_in (section_of name k.sections)) (k.sections.openings + 1), (description_sent l, first_block_sent l (rows_in_block l 0 size)))
after_query_sent rdb k name size (refused refusal) = open_failed_sent rdb (fault_of refusal)
after_query_sent rdb k name size answer = not_done_sent k answer

queried_sent : (rdb : List ℕ) (k : Statements) (name : List ℕ) (size : ℕ) (q : Result (Statement × List Value) SqlFault) → SendsObjects (does.asked rdb k name size q)
queried_sent rdb k name size (Err f) = open_failed_sent rdb f
queried_sent rdb k name size (Ok q) = after_query_sent rdb k name size

pub opening_sent : (rdb : List ℕ) (o : Option OpenFault) (k : Statements) (name : List ℕ) (size : ℕ) (parameters : Option DescribedData) → SendsObjects (does.opened_unless rdb o k name size parameters)
opening_sent rdb (Some unopened.NotPrepared) k name size parameters = open_failed_sent rdb fault.NotPrepared
opening_sent rdb (Some unopened.QueryOpen) k name size parameters = (open_sent rdb name, tt)
opening_sent rdb (Some unopened.NoInstance) k name size parameters = open_failed_sent rdb fault.LimitReached
opening_sent rdb None k name size parameters = queried_sent rdb k name size (does.query_in parameters (section_of name k.sections))
