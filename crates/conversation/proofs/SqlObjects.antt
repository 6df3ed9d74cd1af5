-- What SQL commands are answered are objects.
use Rattle.std.proofs.Common.{◌==◌, ℕ, Bool, true, false, List, [], ◌∷◌, Option, Some, None, Result, Ok, Err, if◌then◌else◌}
use Rattle.std.specs.Prelude.{codes, pos}
use Rattle.ddm_objects.specs.declared.code_point.TheConstants.{CMDVLTRM, ENDUOWRM, RDBNAM, RDBUPDRM, UOWDSP}
use Rattle.core_calls.specs.Answer as core
use Rattle.core_calls.specs.Answer.{count, done, in_global, input, output}
use Rattle.core_calls.specs.Call.{describe}
use Rattle.core_calls.specs.declared.call.Side.{Side}
use Rattle.core_calls.specs.declared.sql_fault.SqlFault.{SqlFault}
use Rattle.core_calls.specs.declared.sql_fault.SqlFault.TheVariants.{NotPrepared, ParameterMismatch}
use Rattle.row_values.specs.Column.{Column}
use Rattle.row_values.specs.Value.{Value}
use Rattle.sections.specs.Cursors.{section_of}
use Rattle.sections.specs.Kept.{Preparation, Section}
use Rattle.sql_text.specs.declared.tree.Statement.{Statement}
use Rattle.sqlam_replies.specs.declared.message.UnitEnd.{UnitEnd}
use Rattle.sqlam_replies.specs.declared.message.UnitEnd.TheVariants.{Committed, RolledBack}
use Rattle.sqlam_replies.specs.Message.{disposition, error, info, scalar, warning}
use Rattle.sqlam_replies.specs.Sqldard.{sqlda}
use Rattle.drda_commands.specs.declared.table.Command.{Command}
use Rattle.drda_commands.specs.declared.table.Command.TheVariants.{Excsqlimm, Prpsqlstt, Dscsqlstt, Excsqlstt, Rdbcmm, Rdbrllbck}
use Rattle.drda_commands.specs.Given.{Given}
use Rattle.drda_commands.specs.Values.{DescribedData, described_data_in, side_in}
use Rattle.command_kit.specs.Doing.{answered, asking, finished}
use Rattle.sqlam_replies.specs.Reply.{Reply}
use Rattle.command_kit.specs.Reply.{changed_card, command_violation, count_card, description, fault_card, not_found_card, parameter_columns, rdb_updated, unit_ended}
use Rattle.command_kit.specs.Text.{is_select, statement_of, values_of}
use Rattle.command_kit.specs.declared.statements.Statements.{Statements}
use Rattle.sql_commands.specs.Commands as does
use Rattle.conversation.specs.Laws.{Description}
use Rattle.conversation.proofs.SentObjects.{AllSent, IsSent, SendsObjects, card_sent, either_doing, either_sent, fault_sent, message_tree, not_done_sent, null_sent, values_sent}

-- ---- single replies

updated_sent : (rdb : List ℕ) → IsSent (rdb_updated rdb)
updated_sent rdb = (message_tree (record { code = RDBUPDRM; severity = info; parameters = scalar RDBNAM rdb ∷ [] })).0

violation_sent : (rdb : List ℕ) → IsSent (command_violation rdb)
violation_sent rdb = (message_tree (record { code = CMDVLTRM; severity = error; parameters = scalar RDBNAM rdb ∷ [] })).0

ended_sent : (end : UnitEnd) → IsSent (unit_ended end)
ended_sent end = (message_tree (record { code = ENDUOWRM; severity = warning; parameters = scalar UOWDSP (disposition end ∷ []) ∷ [] })).0

changed_sent : (n : ℕ) → IsSent (changed_card n)
changed_sent n = card_sent (pos 0) (codes "00000") n

not_found_sent : IsSent not_found_card
not_found_sent = card_sent (pos 100) (codes "02000") 0

either_card : (b : Bool) (x y : Reply) → IsSent x → IsSent y → IsSent (if b then x else y)
either_card true x y p q = p
either_card false x y p q = q

count_sent : (is_search : Bool) (n : ℕ) → IsSent (count_card is_search n)
count_sent true n = either_card (n == 0) not_found_card (changed_card n) not_found_sent (changed_sent n)
count_sent false n = changed_sent n

description_sent : (unicode : Bool) (columns : List Column) → IsSent (description unicode columns)
description_sent unicode columns = values_sent Description (sqlda unicode columns)

-- ---- RDBCMM and RDBRLLBCK

ending_sent : (rdb : List ℕ) (end : UnitEnd) (k : Statements) → SendsObjects (does.ending rdb end k)
ending_sent rdb end k done = (ended_sent end, (null_sent, tt))
ending_sent rdb end k in_global = (violation_sent rdb, tt)
ending_sent rdb end k answer = not_done_sent k answer

-- ---- EXCSQLIMM and EXCSQLSTT

told_sent : (rdb : List ℕ) (k : Statements) (card : Reply) → IsSent card → AllSent (does.change_told rdb k card).replies
told_sent rdb k card sent = either_sent k.is_change_told (card ∷ []) (rdb_updated rdb ∷ card ∷ []) (sent, tt) (updated_sent rdb, (sent, tt))

running_sent : (rdb : List ℕ) (k : Statements) (s : Statement) (values : List Value) → SendsObjects (does.running rdb k s values)
running_sent rdb k s values (count n) = told_sent rdb k (count_card (does.is_search s.command) n) (count_sent (does.is_search s.command) n)
running_sent rdb k s values answer = not_done_sent k answer

immediate_sent : (rdb : List ℕ) (k : Statements) (r : Result Statement SqlFault) → SendsObjects (does.immediate_by rdb k r)
immediate_sent rdb k (Ok s) = running_sent rdb k s []
immediate_sent rdb k (Err f) = (fault_sent f, tt)

executed_with_sent : (rdb : List ℕ) (k : Statements) (s : Statement) (values : Option (List Value)) → SendsObjects (does.executed_with rdb k s values)
executed_with_sent rdb k s None = (fault_sent ParameterMismatch, tt)
executed_with_sent rdb k s (Some values) = running_sent rdb k s values

executed_as_sent : (rdb : List ℕ) (k : Statements) (brought : Option DescribedData) (s : Statement) → SendsObjects (does.executed_as rdb k brought s)
executed_as_sent rdb k brought s =
    either_doing (is_select s.command) (finished (answered k (fault_card NotPrepared ∷ []))) (does.executed_with rdb k s (values_of brought))
    (fault_sent NotPrepared, tt) (executed_with_sent rdb k s (values_of brought))

executed_sent : (rdb : List ℕ) (k : Statements) (brought : Option DescribedData) (section : Option Section) → SendsObjects (does.executed_in rdb k brought section)
executed_sent rdb k brought None = (fault_sent NotPrepared, tt)
executed_sent rdb k brought (Some section) = executed_as_sent rdb k brought section.statement

-- ---- PRPSQLSTT and DSCSQLSTT

after_describe_sent : (unicode : Bool) (k prepared : Statements) (answer : core.Answer) → AllSent (does.after_describe unicode k prepared answer).replies
after_describe_sent unicode k prepared (output columns) = (description_sent unicode columns, tt)
after_describe_sent unicode k prepared (input types) = (description_sent unicode (parameter_columns types), tt)
after_describe_sent unicode k prepared answer = not_done_sent k answer

describing_sent : (unicode : Bool) (k prepared : Statements) (s : Statement) (which : Side) → SendsObjects (does.describing unicode k prepared s which)
describing_sent unicode k prepared s which =
    either_doing (does.is_create s.command) (finished (answered prepared (description unicode [] ∷ []))) (asking (describe s which) (does.after_describe unicode k prepared))
    (description_sent unicode [], tt) (after_describe_sent unicode k prepared)

prepared_as_sent : (unicode : Bool) (k : Statements) (p : Preparation) (wanted : Option Side) → SendsObjects (does.prepared_as unicode k p wanted)
prepared_as_sent unicode k p None = (null_sent, tt)
prepared_as_sent unicode k p (Some which) = describing_sent unicode (does.unprepared k) (does.with_prepared k p) p.statement which

prepared_sent : (unicode : Bool) (k : Statements) (prepared : Statement → Preparation) (wanted : Option Side) (r : Result Statement SqlFault) → SendsObjects (does.prepared_by unicode k prepared wanted r)
prepared_sent unicode k prepared wanted (Err f) = (fault_sent f, tt)
prepared_sent unicode k prepared wanted (Ok s) = prepared_as_sent unicode k (prepared s) wanted

described_sent : (unicode : Bool) (k : Statements) (which : Side) (section : Option Section) → SendsObjects (does.described_in unicode k which section)
described_sent unicode k which None = (fault_sent NotPrepared, tt)
described_sent unicode k which (Some section) = describing_sent unicode k k section.statement which

-- ---- all of them

pub sql_sent : (unicode : Bool) (rdb : List ℕ) (command : Command) (given : Given) (k : Statements) → SendsObjects (does.doing unicode rdb command given k)
sql_sent unicode rdb Excsqlimm given k = immediate_sent rdb k (statement_of (does.statement_text given))
sql_sent unicode rdb Prpsqlstt given k = prepared_sent unicode k (does.preparation given) (does.wanted_side given) (statement_of (does.statement_text given))
sql_sent unicode rdb Dscsqlstt given k = described_sent unicode k (does.side_for (side_in given)) (section_of (does.section_name given) k.sections)
sql_sent unicode rdb Excsqlstt given k = executed_sent rdb k (described_data_in given) (section_of (does.section_name given) k.sections)
sql_sent unicode rdb Rdbcmm given k = ending_sent rdb Committed k
sql_sent unicode rdb Rdbrllbck given k = ending_sent rdb RolledBack k
sql_sent unicode rdb command given k = tt
