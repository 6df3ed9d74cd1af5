-- What each SQL command does (DRDA V5 volume 3: EXCSQLIMM, PRPSQLSTT, DSCSQLSTT, EXCSQLSTT, RDBCMM, RDBRLLBCK).
use Rattle.std.specs.Prelude.{Bool, true, false, ℕ, List, [], ◌∷◌, Option, Some, None, unwrap_or, Result, Ok, Err, if◌then◌else◌}
use Rattle.sql_text.specs.declared.tree.Command.{Command}
use Rattle.sql_text.specs.declared.tree.Command.TheVariants as command
use Rattle.sql_text.specs.declared.tree.Statement.{Statement}
use Rattle.row_values.specs.Value.{Value}
use Rattle.core_calls.specs.Answer.{Answer, count, done, in_global, input, output}
use Rattle.core_calls.specs.Call.{Call, commit, describe, roll_back, run}
use Rattle.core_calls.specs.declared.call.Side.{Side}
use Rattle.core_calls.specs.declared.call.Side.TheVariants as side
use Rattle.core_calls.specs.declared.sql_fault.SqlFault.{SqlFault}
use Rattle.core_calls.specs.declared.sql_fault.SqlFault.TheVariants as fault
use Rattle.drda_commands.specs.Given.{Given}
use Rattle.drda_commands.specs.Values.{DescribedData, attributes_in, described_data_in, section_in, side_in, statement_in, wants_description}
use Rattle.drda_commands.specs.declared.table.Command as asked
use Rattle.drda_commands.specs.declared.table.Command.TheVariants as does
use Rattle.drda_commands.specs.declared.values.DescribedSide.{DescribedSide}
use Rattle.drda_commands.specs.declared.values.DescribedSide.TheVariants as described
use Rattle.sections.specs.Kept.{Preparation, Section}
use Rattle.sections.specs.Cursors.{after_prepare, section_of}
use Rattle.sqlam_replies.specs.declared.message.UnitEnd.{UnitEnd}
use Rattle.sqlam_replies.specs.declared.message.UnitEnd.TheVariants.{Committed, RolledBack}
use Rattle.sqlam_replies.specs.Reply.{Reply}
use Rattle.command_kit.specs.Reply.{command_violation, count_card, description, fault_card, null_card, parameter_columns, rdb_updated, unit_ended}
use Rattle.command_kit.specs.declared.statements.Statements.{Statements}
use Rattle.command_kit.specs.Statements.{unit_behind}
use Rattle.command_kit.specs.Text.{is_held_by, is_select, statement_of, values_of}
use Rattle.command_kit.specs.Doing.{Doing, Done, answered, asking, finished}
use Rattle.command_kit.specs.NotDone.{not_done}

abbrev pub is_create : Command → Bool
is_create (command.Create table definitions key) = true
is_create _ = false

-- it looks for the rows that it changes
abbrev pub is_search : Command → Bool
is_search (command.Update table assignments filter) = true
is_search (command.Delete table filter) = true
is_search _ = false

abbrev pub side_for : DescribedSide → Side
side_for described.Columns = side.Output
side_for described.Parameters = side.Input

-- a commit keeps the cursors that are held
abbrev pub keeps_held : UnitEnd → Bool
keeps_held Committed = true
keeps_held RolledBack = false

-- the name of the section and the text that an accepted command brings
abbrev pub section_name : Given → List ℕ
section_name given = unwrap_or (section_in given) []

abbrev pub statement_text : Given → List ℕ
statement_text given = unwrap_or (statement_in given) []

-- a statement that an accepted command prepares
abbrev pub preparation : Given → Statement → Preparation
preparation given s = record { name = section_name given; statement = s; is_held = is_held_by (attributes_in given) }

-- what a PRPSQLSTT is to describe, if anything
abbrev pub wanted_side : Given → Option Side
wanted_side given = if wants_description given then Some (side_for (side_in given)) else None

abbrev pub end_call : UnitEnd → Call
end_call Committed = commit
end_call RolledBack = roll_back

-- whether a change has been told
abbrev pub with_told : Bool → Statements → Statements
with_told is_told k = record k { is_change_told = is_told }

-- the statement is prepared where the reply is no refusal
abbrev pub with_prepared : Statements → Preparation → Statements
with_prepared k p = record k { sections = after_prepare p k.sections }

-- else every section is as it was, and none waits for a statement
abbrev pub unprepared : Statements → Statements
unprepared k = record k { sections = record k.sections { reserved = None } }

-- the database's name as it is answered
module _ (rdb : List ℕ) where
  -- ---- RDBCMM and RDBRLLBCK

  abbrev pub after_end : UnitEnd → Statements → Answer → Done
  after_end end k done = answered (unit_behind (keeps_held end) k) (unit_ended end ∷ null_card ∷ [])
  after_end end k in_global = answered k (command_violation rdb ∷ [])
  after_end end k answer = not_done k answer

  abbrev pub ending : UnitEnd → Statements → Doing
  ending end k = asking (end_call end) (after_end end k)

  -- ---- EXCSQLIMM and EXCSQLSTT

  -- the first change is told by RDBUPDRM
  abbrev pub change_told : Statements → Reply → Done
  change_told k card = answered (with_told true k) (if k.is_change_told then card ∷ [] else rdb_updated rdb ∷ card ∷ [])

  abbrev pub after_run : Command → Statements → Answer → Done
  after_run c k (count n) = change_told k (count_card (is_search c) n)
  after_run c k answer = not_done k answer

  abbrev pub running : Statements → Statement → List Value → Doing
  running k s values = asking (run s values) (after_run s.command k)

  abbrev pub immediate_by : Statements → Result Statement SqlFault → Doing
  immediate_by k (Err f) = finished (answered k (fault_card f ∷ []))
  immediate_by k (Ok s) = running k s []

  abbrev pub immediate : Statements → Given → Doing
  immediate k given = immediate_by k (statement_of (statement_text given))

  abbrev pub executed_with : Statements → Statement → Option (List Value) → Doing
  executed_with k s None = finished (answered k (fault_card fault.ParameterMismatch ∷ []))
  executed_with k s (Some values) = running k s values

  -- the kind of the statement is judged before the values of its markers
  abbrev pub executed_as : Statements → Option DescribedData → Statement → Doing
  executed_as k sent s =
      if is_select s.command then finished (answered k (fault_card fault.NotPrepared ∷ []))
      else executed_with k s (values_of sent)

  abbrev pub executed_in : Statements → Option DescribedData → Option Section → Doing
  executed_in k sent None = finished (answered k (fault_card fault.NotPrepared ∷ []))
  executed_in k sent (Some section) = executed_as k sent section.statement

  abbrev pub executed : Statements → Given → Doing
  executed k given = executed_in k (described_data_in given) (section_of (section_name given) k.sections)

-- whether names are answered in UTF-8
module _ (unicode : Bool) where
  -- ---- PRPSQLSTT and DSCSQLSTT

  abbrev pub after_describe : Statements → Statements → Answer → Done
  after_describe k prepared (output columns) = answered prepared (description unicode columns ∷ [])
  after_describe k prepared (input types) = answered prepared (description unicode (parameter_columns types) ∷ [])
  after_describe k prepared answer = not_done k answer

  -- with another state where the description is answered; a CREATE TABLE has nothing to describe
  abbrev pub describing : Statements → Statements → Statement → Side → Doing
  describing k prepared s which =
      if is_create s.command then finished (answered prepared (description unicode [] ∷ []))
      else asking (describe s which) (after_describe k prepared)

  -- a statement is prepared, and described too where that is wanted
  abbrev pub prepared_as : Statements → Preparation → Option Side → Doing
  prepared_as k p None = finished (answered (with_prepared k p) (null_card ∷ []))
  prepared_as k p (Some which) = describing (unprepared k) (with_prepared k p) p.statement which

  abbrev pub prepared_by : Statements → (Statement → Preparation) → Option Side → Result Statement SqlFault → Doing
  prepared_by k prepared wanted (Err f) = finished (answered k (fault_card f ∷ []))
  prepared_by k prepared wanted (Ok s) = prepared_as k (prepared s) wanted

  abbrev pub preparing : Statements → Given → Doing
  preparing k given = prepared_by k (preparation given) (wanted_side given) (statement_of (statement_text given))

  abbrev pub described_in : Statements → Side → Option Section → Doing
  described_in k which None = finished (answered k (fault_card fault.NotPrepared ∷ []))
  described_in k which (Some section) = describing k k section.statement which

  abbrev pub describing_section : Statements → Given → Doing
  describing_section k given = described_in k (side_for (side_in given)) (section_of (section_name given) k.sections)

-- what each command does; any other one does nothing
abbrev pub doing : Bool → List ℕ → asked.Command → Given → Statements → Doing
doing unicode rdb does.Excsqlimm given k = immediate rdb k given
doing unicode rdb does.Prpsqlstt given k = preparing unicode k given
doing unicode rdb does.Dscsqlstt given k = describing_section unicode k given
doing unicode rdb does.Excsqlstt given k = executed rdb k given
doing unicode rdb does.Rdbcmm given k = ending rdb Committed k
doing unicode rdb does.Rdbrllbck given k = ending rdb RolledBack k
doing unicode rdb _ given k = finished (answered k [])
