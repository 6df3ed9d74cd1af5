-- What each command on a cursor does (DRDA V5 volume 3: OPNQRY, CNTQRY, CLSQRY).
use Rattle.std.specs.Prelude.{ℕ, ◌+◌, ◌==◌, nat_le, Bool, false, List, [], ◌∷◌, ◌++◌, length, Option, Some, None, unwrap_or, Result, Ok, Err, if◌then◌else◌}
use Rattle.row_values.specs.Value.{Value}
use Rattle.tables.specs.RowList.{RowList}
use Rattle.sql_text.specs.declared.tree.Statement.{Statement}
use Rattle.core_calls.specs.Answer.{Answer, refused, rows}
use Rattle.core_calls.specs.Call.{query}
use Rattle.core_calls.specs.Refusal.{fault_of}
use Rattle.core_calls.specs.declared.sql_fault.SqlFault.{SqlFault}
use Rattle.core_calls.specs.declared.sql_fault.SqlFault.TheVariants as fault
use Rattle.drda_commands.specs.declared.table.Command.{Command}
use Rattle.drda_commands.specs.declared.table.Command.TheVariants.{Clsqry, Cntqry, Opnqry}
use Rattle.drda_commands.specs.Given.{Given}
use Rattle.drda_commands.specs.Values.{DescribedData, block_size_in, described_data_in, query_instance_in, section_in}
use Rattle.sections.specs.Blocks.{after_advance, ends_behind}
use Rattle.sections.specs.Cursors.{after_close, after_open, meant_cursor, opening_fault, section_of}
use Rattle.sections.specs.declared.fault.OpenFault.{OpenFault}
use Rattle.sections.specs.declared.fault.OpenFault.TheVariants as unopened
use Rattle.sections.specs.Kept.{Cursor, Section}
use Rattle.sqlam_replies.specs.Reply.{Reply}
use Rattle.command_kit.specs.Reply.{null_card}
use Rattle.command_kit.specs.declared.statements.Statements.{Statements}
use Rattle.command_kit.specs.Text.{is_select, values_of}
use Rattle.command_kit.specs.Doing.{Doing, Done, answered, asking, finished}
use Rattle.command_kit.specs.NotDone.{not_done}
use Rattle.cursor_commands.specs.Blocks.{rows_in_block}
use Rattle.cursor_commands.specs.Replies.{end_of_query, open_failed, query_not_open, query_open, query_opened, rows_description, some_rows}

-- the section that is meant
abbrev pub name_in : Given → List ℕ
name_in given = unwrap_or (section_in given) []

-- behind the last row of a query
abbrev pub ending : Bool → List Reply
ending is_last = if is_last then end_of_query else []

-- the first block of a query, where it has rows
abbrev pub first_block : RowList → ℕ → List Reply
first_block l count = (if count == 0 then [] else some_rows l 0 count ∷ []) ++ ending (nat_le (length l.rows) count)

-- ---- the query of a section

abbrev pub or_mismatch : Option (List Value) → Result (List Value) SqlFault
or_mismatch None = Err fault.ParameterMismatch
or_mismatch (Some values) = Ok values

abbrev pub with_values : Statement → Result (List Value) SqlFault → Result (Statement × List Value) SqlFault
with_values s (Err f) = Err f
with_values s (Ok values) = Ok (s, values)

-- the kind of the statement is judged before the values of its markers
abbrev pub as_query : Option DescribedData → Statement → Result (Statement × List Value) SqlFault
as_query parameters s = if is_select s.command then with_values s (or_mismatch (values_of parameters)) else Err fault.NotPrepared

abbrev pub query_in : Option DescribedData → Option Section → Result (Statement × List Value) SqlFault
query_in parameters None = Err fault.NotPrepared
query_in parameters (Some section) = as_query parameters section.statement

-- whether the section's cursors are held over a commit, by what is prepared there now
abbrev pub is_held_in : Option Section → Bool
is_held_in None = false
is_held_in (Some section) = section.is_held

-- so many rows in a block of this size
abbrev pub sent : Statements → List ℕ → Cursor → ℕ → ℕ → Done
sent k name cursor size count =
    answered (record k { sections = after_advance name count size k.sections }) (some_rows cursor.rows cursor.place count ∷ ending (ends_behind cursor count))

abbrev pub sent_block : Statements → List ℕ → Cursor → ℕ → Done
sent_block k name cursor size = sent k name cursor size (rows_in_block cursor.rows cursor.place size)

-- a cursor over these rows, and the first block of so many of them
abbrev pub opened_with : Statements → List ℕ → ℕ → RowList → ℕ → Done
opened_with k name size l count =
    answered (record k { sections = after_advance name count size (after_open name l size k.sections) })
    (query_opened (is_held_in (section_of name k.sections)) (k.sections.openings + 1) ∷ rows_description l ∷ first_block l count)

-- the database's name as it is answered
module _ (rdb : List ℕ) where
  -- ---- CLSQRY

  abbrev pub closed_at : Statements → List ℕ → Option Cursor → Done
  closed_at k name None = answered k (query_not_open rdb name ∷ [])
  closed_at k name (Some cursor) = answered (record k { sections = after_close name k.sections }) (null_card ∷ [])

  -- the cursor that is meant, by its number where one is given
  abbrev pub closed : Statements → Given → Done
  closed k given = closed_at k (name_in given) (meant_cursor (name_in given) (query_instance_in given) k.sections)

  -- ---- CNTQRY

  abbrev pub fetched_at : Statements → List ℕ → Option ℕ → Option Cursor → Done
  fetched_at k name size None = answered k (query_not_open rdb name ∷ [])
  fetched_at k name size (Some cursor) = sent_block k name cursor (unwrap_or size cursor.block_size)

  -- the next block, of the size that is given, or else of the one before
  abbrev pub fetched : Statements → Given → Done
  fetched k given = fetched_at k (name_in given) (block_size_in given) (meant_cursor (name_in given) (query_instance_in given) k.sections)

  -- ---- OPNQRY

  abbrev pub after_query : Statements → List ℕ → ℕ → Answer → Done
  after_query k name size (rows l) = opened_with k name size l (rows_in_block l 0 size)
  after_query k name size (refused refusal) = answered k (open_failed rdb (fault_of refusal))
  after_query k name size answer = not_done k answer

  abbrev pub asked : Statements → List ℕ → ℕ → Result (Statement × List Value) SqlFault → Doing
  asked k name size (Err f) = finished (answered k (open_failed rdb f))
  asked k name size (Ok q) = asking (query q.0 q.1) (after_query k name size)

  -- an instance number has eight bytes
  abbrev pub opened_unless : Option OpenFault → Statements → List ℕ → ℕ → Option DescribedData → Doing
  opened_unless (Some unopened.NotPrepared) k name size parameters = finished (answered k (open_failed rdb fault.NotPrepared))
  opened_unless (Some unopened.QueryOpen) k name size parameters = finished (answered k (query_open rdb name ∷ []))
  opened_unless (Some unopened.NoInstance) k name size parameters = finished (answered k (open_failed rdb fault.LimitReached))
  opened_unless None k name size parameters = asked k name size (query_in parameters (section_of name k.sections))

  abbrev pub opening : Statements → Given → Doing
  opening k given = opened_unless (opening_fault (name_in given) k.sections) k (name_in given) (unwrap_or (block_size_in given) 0) (described_data_in given)

  -- ---- all of them; another command does nothing here

  abbrev pub doing : Command → Given → Statements → Doing
  doing Opnqry given k = opening k given
  doing Cntqry given k = finished (fetched k given)
  doing Clsqry given k = finished (closed k given)
  doing command given k = finished (answered k [])
