-- Only AGNPRMRM closes a conversation.
use Rattle.std.proofs.Common.{◌≡◌, ◌⊎◌, ◌+◌, ◌&&◌, ◌||◌, ◌==◌, ℕ, Bool, true, false, not, max, List, [], ◌∷◌, ◌++◌, Option, Some, None, option_map, Result, Ok, Err, if◌then◌else◌, refl, sym, ap, subst, ◌∙◌, inl, inr, ⊎_elim}
use Rattle.core_calls.specs.Call.{Call, describe}
use Rattle.core_calls.specs.declared.sql_fault.SqlFault.TheVariants.{NotPrepared}
use Rattle.core_calls.specs.Answer as core
use Rattle.core_calls.specs.Answer.{count, rows, output, input, done, refused as refused_call, in_global, xa, in_doubt, no_memory, full, device_failed, closed as core_closed}
use Rattle.core_calls.specs.declared.call.Side.{Side}
use Rattle.core_calls.specs.declared.sql_fault.SqlFault.{SqlFault}
use Rattle.row_values.specs.Value.{Value}
use Rattle.sql_text.specs.declared.tree.Statement.{Statement}
use Rattle.sections.specs.Kept.{Cursor, Preparation, Section}
use Rattle.sections.specs.Cursors.{meant_cursor, opening_fault, section_of}
use Rattle.sqlam_replies.specs.declared.message.UnitEnd.{UnitEnd}
use Rattle.sqlam_replies.specs.declared.message.UnitEnd.TheVariants.{Committed, RolledBack}
use Rattle.drda_names.specs.Names.{padded_in}
use Rattle.dss_frames.specs.Dss.{Dss}
use Rattle.dss_frames.specs.Writing.{written}
use Rattle.ddm_objects.specs.declared.code_point.TheConstants.{SECMEC, RDBNAM}
use Rattle.drda_commands.specs.declared.refusal.Refusal.{Refusal}
use Rattle.drda_commands.specs.declared.refusal.Refusal.TheVariants.{Syntax, OutOfTurn, RdbAccessed, RdbNotAccessed, CommandNotSupported, ValueNotSupported}
use Rattle.drda_commands.specs.declared.stage.Mechanism.{Mechanism}
use Rattle.drda_commands.specs.declared.stage.Stage.TheVariants.{Opened}
use Rattle.drda_commands.specs.declared.table.Command.{Command}
use Rattle.drda_commands.specs.declared.table.Command.TheVariants.{Excsat, Accsec, Secchk, Accrdb, Excsqlimm, Prpsqlstt, Dscsqlstt, Excsqlstt, Opnqry, Cntqry, Clsqry, Rdbcmm, Rdbrllbck, Syncctl}
use Rattle.drda_commands.specs.declared.table.ItemKind.TheVariants.{Parameter}
use Rattle.drda_commands.specs.Given.{Given, Occurs, found_at}
use Rattle.drda_commands.specs.Judge.{Accepted}
use Rattle.drda_commands.specs.Values.{DescribedData, block_size_in, described_data_in, query_instance_in, side_in}
use Rattle.std.specs.Prelude.{nat_le, length, unwrap_or}
use Rattle.command_kit.specs.declared.statements.Statements.{Statements}
use Rattle.command_kit.specs.Doing.{Doing, answered, asking, finished}
use Rattle.command_kit.specs.Done.{WasDone}
use Rattle.command_kit.specs.NotDone.{not_done}
use Rattle.sqlam_replies.specs.Reply.{Reply}
use Rattle.command_kit.specs.Reply.{agent_failed, changed_card, count_card, description, fault_card, not_found_card, rdb_updated}
use Rattle.command_kit.specs.Text.{is_select, statement_of, values_of}
use Rattle.sql_commands.specs.Commands as sql_does
use Rattle.cursor_commands.specs.Blocks.{rows_in_block}
use Rattle.cursor_commands.specs.Commands as cursors_do
use Rattle.cursor_commands.specs.Replies.{query_opened, rows_description, some_rows}
use Rattle.sql_commands.specs.SyncControl as xa_does
use Rattle.conversation.specs.Commands.{doing}
use Rattle.xa_calls.specs.declared.request.Request.{Request}
use Rattle.xa_calls.specs.declared.request.Request.TheVariants as request
use Rattle.tables.specs.RowList.{RowList}
use Rattle.sections.specs.Blocks.{ends_behind}
use Rattle.sections.specs.declared.fault.OpenFault.{OpenFault}
use Rattle.sections.specs.declared.fault.OpenFault.TheVariants as unopened
use Rattle.conversation.specs.declared.chain.Link.{Link}
use Rattle.session_commands.specs.declared.session.Session.{Session}
use Rattle.conversation.specs.Done.{Exchanges, IsExcused, IsFollowed}
use Rattle.session_commands.specs.declared.answer.AtOnce.TheVariants.{ManagerMissing}
use Rattle.session_commands.specs.Access.{Answer, access_done, answered_at_once, asked_for, bytes_of, check_code, is_ours, mechanism_for, refused}
use Rattle.conversation.specs.Exchange.{Plan, at_once, at_once_or, breaks, chain_bits, closes, excused, link_of, plan, plan_for, sent, database_plan, worst}
use Rattle.conversation.specs.Laws.{AskedInVain, OnlyFailureCloses, OnlyUnusableAnswersClose, verdict}
use Rattle.conversation.specs.Usable.{are_in_doubt, are_rows, is_code, is_description, is_end, is_usable, is_usable_anyway}
use Rattle.session_commands.specs.Replies.{accrdbrm, rdb_not_found, refusal_reply}
use Rattle.session_commands.specs.Settings.{Settings}
use Rattle.conversation.specs.Standing.{Standing}
use Rattle.conversation.proofs.Single.{at_once_session, one_format, one_sent}

both : {P : Type 0} (b : Bool) → b ≡ true → b ≡ false → P
both b so not = let clash : true ≡ false = sym so ∙ not in absurd (cc clash)

-- ---- the replies of SQL commands: none closes, or it is AGNPRMRM alone, behind an answer that can't be used

abbrev IsCalm : List Reply → Type 0
IsCalm replies = closes (worst replies) ≡ false

abbrev IsMild : List Reply → Bool → Type 0
IsMild replies usable = IsCalm replies ⊎ ((replies ≡ agent_failed ∷ []) × (usable ≡ false))

abbrev AreMild : Doing → Type 0
AreMild (finished d) = IsCalm d.replies
AreMild (asking call next) = (answer : core.Answer) → IsMild (next answer).replies (is_usable call answer)

not_done_mild : (k : Statements) (answer : core.Answer) → IsMild (not_done k answer).replies (is_usable_anyway answer)
not_done_mild k (refused_call refusal) = inl refl
not_done_mild k no_memory = inl refl
not_done_mild k (full need room) = inl refl
not_done_mild k answer = inr (refl, refl)

ended_mild : (rdb : List ℕ) (end : UnitEnd) (k : Statements) (answer : core.Answer) → IsMild (sql_does.after_end rdb end k answer).replies (is_end answer)
ended_mild rdb end k done = inl refl
ended_mild rdb end k in_global = inl refl
ended_mild rdb end k answer = not_done_mild k answer

ending_mild : (rdb : List ℕ) (end : UnitEnd) (k : Statements) → AreMild (sql_does.ending rdb end k)
ending_mild rdb Committed k = ended_mild rdb Committed k
ending_mild rdb RolledBack k = ended_mild rdb RolledBack k

either_calm : (b : Bool) (x y : List Reply) → IsCalm x → IsCalm y → IsCalm (if b then x else y)
either_calm true x y m n = m
either_calm false x y m n = n

either_zero : (b : Bool) (x y : Reply) → x.severity ≡ 0 → y.severity ≡ 0 → (if b then x else y).severity ≡ 0
either_zero true x y m n = m
either_zero false x y m n = n

count_zero : (is_search : Bool) (n : ℕ) → (count_card is_search n).severity ≡ 0
count_zero true n = either_zero (n == 0) not_found_card (changed_card n) refl refl
count_zero false n = refl

-- an SQLCARD of a count, behind RDBUPDRM or not
told_calm : (rdb : List ℕ) (k : Statements) (card : Reply) → card.severity ≡ 0 → IsCalm (sql_does.change_told rdb k card).replies
told_calm rdb k card zero =
    either_calm k.is_change_told (card ∷ []) (rdb_updated rdb ∷ card ∷ []) (ap (λ (n : ℕ). closes (max n 0)) zero) (ap (λ (n : ℕ). closes (max 0 (max n 0))) zero)

running_mild : (rdb : List ℕ) (k : Statements) (s : Statement) (values : List Value) → AreMild (sql_does.running rdb k s values)
running_mild rdb k s values (count n) = inl (told_calm rdb k (count_card (sql_does.is_search s.command) n) (count_zero (sql_does.is_search s.command) n))
running_mild rdb k s values answer = not_done_mild k answer

immediate_mild : (rdb : List ℕ) (k : Statements) (r : Result Statement SqlFault) → AreMild (sql_does.immediate_by rdb k r)
immediate_mild rdb k (Ok s) = running_mild rdb k s []
immediate_mild rdb k (Err f) = refl

either_doing : (b : Bool) (x y : Doing) → AreMild x → AreMild y → AreMild (if b then x else y)
either_doing true x y m n = m
either_doing false x y m n = n

executed_with_mild : (rdb : List ℕ) (k : Statements) (s : Statement) (values : Option (List Value)) → AreMild (sql_does.executed_with rdb k s values)
executed_with_mild rdb k s None = refl
executed_with_mild rdb k s (Some values) = running_mild rdb k s values

executed_as_mild : (rdb : List ℕ) (k : Statements) (brought : Option DescribedData) (s : Statement) → AreMild (sql_does.executed_as rdb k brought s)
executed_as_mild rdb k brought s =
    either_doing (is_select s.command) (finished (answered k (fault_card NotPrepared ∷ []))) (sql_does.executed_with rdb k s (values_of brought)) refl (executed_with_mild rdb k s (values_of brought))

executed_mild : (rdb : List ℕ) (k : Statements) (brought : Option DescribedData) (section : Option Section) → AreMild (sql_does.executed_in rdb k brought section)
executed_mild rdb k brought None = refl
executed_mild rdb k brought (Some section) = executed_as_mild rdb k brought section.statement

after_describe_mild : (unicode : Bool) (k prepared : Statements) (answer : core.Answer) → IsMild (sql_does.after_describe unicode k prepared answer).replies (is_description answer)
after_describe_mild unicode k prepared (output columns) = inl refl
after_describe_mild unicode k prepared (input types) = inl refl
after_describe_mild unicode k prepared answer = not_done_mild k answer

describing_mild : (unicode : Bool) (k prepared : Statements) (s : Statement) (which : Side) → AreMild (sql_does.describing unicode k prepared s which)
describing_mild unicode k prepared s which = either_doing (sql_does.is_create s.command) (finished (answered prepared (description unicode [] ∷ []))) (asking (describe s which) (sql_does.after_describe unicode k prepared)) refl (after_describe_mild unicode k prepared)

prepared_as_mild : (unicode : Bool) (k : Statements) (p : Preparation) (wanted : Option Side) → AreMild (sql_does.prepared_as unicode k p wanted)
prepared_as_mild unicode k p None = refl
prepared_as_mild unicode k p (Some which) = describing_mild unicode (sql_does.unprepared k) (sql_does.with_prepared k p) p.statement which

prepared_mild : (unicode : Bool) (k : Statements) (prepared : Statement → Preparation) (wanted : Option Side) (r : Result Statement SqlFault) → AreMild (sql_does.prepared_by unicode k prepared wanted r)
prepared_mild unicode k prepared wanted (Err f) = refl
prepared_mild unicode k prepared wanted (Ok s) = prepared_as_mild unicode k (prepared s) wanted

described_mild : (unicode : Bool) (k : Statements) (which : Side) (section : Option Section) → AreMild (sql_does.described_in unicode k which section)
described_mild unicode k which None = refl
described_mild unicode k which (Some section) = describing_mild unicode k k section.statement which

sql_mild : (unicode : Bool) (rdb : List ℕ) (command : Command) (given : Given) (k : Statements) → AreMild (sql_does.doing unicode rdb command given k)
sql_mild unicode rdb Excsqlimm given k = immediate_mild rdb k (statement_of (sql_does.statement_text given))
sql_mild unicode rdb Prpsqlstt given k = prepared_mild unicode k (sql_does.preparation given) (sql_does.wanted_side given) (statement_of (sql_does.statement_text given))
sql_mild unicode rdb Dscsqlstt given k = described_mild unicode k (sql_does.side_for (side_in given)) (section_of (sql_does.section_name given) k.sections)
sql_mild unicode rdb Excsqlstt given k = executed_mild rdb k (described_data_in given) (section_of (sql_does.section_name given) k.sections)
sql_mild unicode rdb Rdbcmm given k = ending_mild rdb Committed k
sql_mild unicode rdb Rdbrllbck given k = ending_mild rdb RolledBack k
sql_mild unicode rdb command given k = refl

-- ---- and of those on cursors

rows_calm : (r : Reply) → r.severity ≡ 0 → (is_last : Bool) → IsCalm (r ∷ cursors_do.ending is_last)
rows_calm r zero true = ap (λ (n : ℕ). closes (max n (worst (cursors_do.ending true)))) zero
rows_calm r zero false = ap (λ (n : ℕ). closes (max n 0)) zero

opened_calm : (held : Bool) (n : ℕ) (l : RowList) (size : ℕ) (is_empty is_last : Bool)
    → IsCalm (query_opened held n ∷ rows_description l ∷ ((if is_empty then [] else some_rows l 0 size ∷ []) ++ cursors_do.ending is_last))
opened_calm held n l size true true = refl
opened_calm held n l size true false = refl
opened_calm held n l size false true = refl
opened_calm held n l size false false = refl

after_query_mild : (rdb : List ℕ) (k : Statements) (name : List ℕ) (size : ℕ) (answer : core.Answer) → IsMild (cursors_do.after_query rdb k name size answer).replies (are_rows answer)
after_query_mild rdb k name size (rows l) =
    let number : ℕ = rows_in_block l 0 size in
    inl (opened_calm (cursors_do.is_held_in (section_of name k.sections)) (k.sections.openings + 1) l number (number == 0) (nat_le (length l.rows) number))
after_query_mild rdb k name size (refused_call refusal) = inl refl
after_query_mild rdb k name size answer = not_done_mild k answer

queried_mild : (rdb : List ℕ) (k : Statements) (name : List ℕ) (size : ℕ) (q : Result (Statement × List Value) SqlFault) → AreMild (cursors_do.asked rdb k name size q)
queried_mild rdb k name size (Err f) = refl
queried_mild rdb k name size (Ok q) = after_query_mild rdb k name size

opening_mild : (rdb : List ℕ) (o : Option OpenFault) (k : Statements) (name : List ℕ) (size : ℕ) (parameters : Option DescribedData) → AreMild (cursors_do.opened_unless rdb o k name size parameters)
opening_mild rdb (Some unopened.NotPrepared) k name size parameters = refl
opening_mild rdb (Some unopened.QueryOpen) k name size parameters = refl
opening_mild rdb (Some unopened.NoInstance) k name size parameters = refl
opening_mild rdb None k name size parameters = queried_mild rdb k name size (cursors_do.query_in parameters (section_of name k.sections))

fetched_mild : (rdb : List ℕ) (k : Statements) (name : List ℕ) (size : Option ℕ) (cursor : Option Cursor) → IsCalm (cursors_do.fetched_at rdb k name size cursor).replies
fetched_mild rdb k name size None = refl
fetched_mild rdb k name size (Some cursor) =
    let number : ℕ = rows_in_block cursor.rows cursor.place (unwrap_or size cursor.block_size) in
    rows_calm (some_rows cursor.rows cursor.place number) refl (ends_behind cursor number)

closed_mild : (rdb : List ℕ) (k : Statements) (name : List ℕ) (cursor : Option Cursor) → IsCalm (cursors_do.closed_at rdb k name cursor).replies
closed_mild rdb k name None = refl
closed_mild rdb k name (Some cursor) = refl

-- ---- and of SYNCCTL

recovered_mild : (k : Statements) (answer : core.Answer) → IsMild (xa_does.after_recover k answer).replies (are_in_doubt answer)
recovered_mild k (in_doubt xids) = inl refl
recovered_mild k answer = not_done_mild k answer

called_mild : (r : Option Request) (k : Statements) (answer : core.Answer) → IsMild (xa_does.after_call r k answer).replies (is_code answer)
called_mild r k (xa c) = inl refl
called_mild r k answer = not_done_mild k answer

sync_mild : (r : Option Request) (k : Statements) → AreMild (xa_does.asked_for r k)
sync_mild (Some request.Recover) k = recovered_mild k
sync_mild (Some (request.Branch verb xid)) k = called_mild (Some (request.Branch verb xid)) k
sync_mild None k = called_mild None k

-- ---- of all of them

doing_mild : (unicode : Bool) (rdb : List ℕ) (command : Command) (given : Given) (k : Statements) → AreMild (doing unicode rdb command given k)
doing_mild unicode rdb Opnqry given k =
    opening_mild rdb (opening_fault (cursors_do.name_in given) k.sections) k (cursors_do.name_in given) (unwrap_or (block_size_in given) 0) (described_data_in given)
doing_mild unicode rdb Cntqry given k =
    fetched_mild rdb k (cursors_do.name_in given) (block_size_in given) (meant_cursor (cursors_do.name_in given) (query_instance_in given) k.sections)
doing_mild unicode rdb Clsqry given k = closed_mild rdb k (cursors_do.name_in given) (meant_cursor (cursors_do.name_in given) (query_instance_in given) k.sections)
doing_mild unicode rdb Syncctl given k = sync_mild (xa_does.request_of given) k
doing_mild unicode rdb Excsat given k = sql_mild unicode rdb Excsat given k
doing_mild unicode rdb Accsec given k = sql_mild unicode rdb Accsec given k
doing_mild unicode rdb Secchk given k = sql_mild unicode rdb Secchk given k
doing_mild unicode rdb Accrdb given k = sql_mild unicode rdb Accrdb given k
doing_mild unicode rdb Excsqlimm given k = sql_mild unicode rdb Excsqlimm given k
doing_mild unicode rdb Prpsqlstt given k = sql_mild unicode rdb Prpsqlstt given k
doing_mild unicode rdb Dscsqlstt given k = sql_mild unicode rdb Dscsqlstt given k
doing_mild unicode rdb Excsqlstt given k = sql_mild unicode rdb Excsqlstt given k
doing_mild unicode rdb Rdbcmm given k = sql_mild unicode rdb Rdbcmm given k
doing_mild unicode rdb Rdbrllbck given k = sql_mild unicode rdb Rdbrllbck given k

-- ---- the other commands

abbrev StaysOpen : Session → Option Answer → Type 0
StaysOpen session None = Unit {0}
StaysOpen session (Some a) = (a.session.is_closed ≡ session.is_closed) × (closes (worst (a.reply ∷ [])) ≡ false)

either_open : (session : Session) (b : Bool) (x y : Answer) → StaysOpen session (Some x) → StaysOpen session (Some y) → StaysOpen session (Some (if b then x else y))
either_open session true x y m n = m
either_open session false x y m n = n

asked_open : (session : Session) (mechanism : Option Mechanism) → StaysOpen session (Some (asked_for session mechanism))
asked_open session (Some mechanism) = (refl, refl)
asked_open session None = (refl, refl)

check_mild : (b : Bool) → closes (max (if b then 0 else 8) 0) ≡ false
check_mild true = refl
check_mild false = refl

missing_open : (settings : Settings) (session : Session) (given : Given) (b : Bool) → StaysOpen session (option_map (λ what. answered_at_once settings session what given) (if b then Some ManagerMissing else None))
missing_open settings session given true = (refl, refl)
missing_open settings session given false = tt

access_open : (settings : Settings) (session : Session) (command : Command) (given : Given) → StaysOpen session (access_done settings session command given)
access_open settings session Excsat given = (refl, refl)
access_open settings session Accsec given =
    let rdbnam : Occurs = found_at Parameter RDBNAM given in
    let asked : Option Mechanism = mechanism_for (bytes_of (found_at Parameter SECMEC given)) in
    either_open session (is_ours settings session.agreed.unicode rdbnam) (asked_for session asked) (record { session = session; reply = rdb_not_found (bytes_of rdbnam) }) (asked_open session asked) (refl, refl)
access_open settings session Secchk given =
    let code : ℕ = check_code settings session (found_at Parameter SECMEC given) (found_at Parameter 0x11A0 given) (found_at Parameter 0x11A1 given) in
    (refl, check_mild (code == 0))
access_open settings session Accrdb given =
    let rdbnam : Occurs = found_at Parameter RDBNAM given in
    either_open session (is_ours settings session.agreed.unicode rdbnam) (record { session = record session { stage = Opened }; reply = accrdbrm session.agreed.unicode })
    (record { session = session; reply = rdb_not_found (bytes_of rdbnam) }) (refl, refl) (refl, refl)
access_open settings session Syncctl given = missing_open settings session given (session.agreed.xa == 0)
access_open settings session command given = tt

refusal_mild : (settings : Settings) (unicode : Bool) (refusal : Refusal) → closes (worst (refusal_reply settings unicode refusal ∷ [])) ≡ false
refusal_mild settings unicode (Syntax e) = refl
refusal_mild settings unicode OutOfTurn = refl
refusal_mild settings unicode RdbAccessed = refl
refusal_mild settings unicode RdbNotAccessed = refl
refusal_mild settings unicode (CommandNotSupported code) = refl
refusal_mild settings unicode (ValueNotSupported code) = refl

-- ---- what closes

or_false : (a b : Bool) → a ≡ false → b ≡ false → (a || b) ≡ false
or_false false b p q = q
or_false true b p q = absurd (cc p)

by_chained : (b : Bool) (format : ℕ) → chain_bits (b && not (b && breaks (worst (agent_failed ∷ [])) format)) [] + 2 ≡ 2
by_chained true format = refl
by_chained false format = refl

abbrev TellsFailure : List ℕ → Type 0
TellsFailure bytes = (correlator : ℕ) × (bytes ≡ written 2 correlator agent_failed.text)

module _ {A : Type 0} (asks : A → Call → core.Answer → A → Type 0) where
  -- none of the replies closes, or they are AGNPRMRM alone, and the command has asked in vain
  abbrev AreCalmOr : A → A → List Reply → Type 0
  AreCalmOr old new replies = IsCalm replies ⊎ ((replies ≡ agent_failed ∷ []) × AskedInVain asks old new)

  replies_mild : (d : Doing) (old new : A) (statements : Statements) (replies : List Reply) → AreMild d → WasDone asks d old new statements [] replies → AreCalmOr old new replies
  replies_mild (finished d) old new statements replies m w = inl (subst IsCalm (sym w.1.replied) m)
  replies_mild (asking call next) old new statements replies m w =
      ⊎_elim
      (λ calm. inl (subst IsCalm (sym w.answered.replied) calm))
      (λ failed. inr (w.answered.replied ∙ failed.0, record { call = call; answer = w.answer; asked = w.asked; unusable = failed.1 }))
      (m w.answer)

  module _ (settings : Settings) (s next : Standing A) (request : Dss) (objects : List Dss) (bytes : List ℕ) (still_open : s.session.is_closed ≡ false) (closed : next.session.is_closed ≡ true) where
    abbrev p : Plan
    p = plan_for settings s.session s.statements request objects

    abbrev link : Link
    link = link_of request objects

    abbrev Closing : List ℕ → Type 0
    Closing sent_bytes = TellsFailure sent_bytes × AskedInVain asks s.asked next.asked

    at_once_open : {P : Type 0} (a : Answer) → p ≡ at_once s.statements a → StaysOpen s.session (Some a) → IsFollowed asks p link s bytes next → P
    at_once_open a at stays f =
        both next.session.is_closed closed
        (ap (λ (t : Session). t.is_closed) (at_once_session asks p a link s next bytes at f) ∙ or_false a.session.is_closed (closes (worst (a.reply ∷ []))) (stays.0 ∙ still_open) stays.1)

    by_replies : (session : Session) → p.session ≡ session → session.is_closed ≡ false → (f : IsFollowed asks p link s bytes next) → AreCalmOr s.asked next.asked f.replies → Closing bytes
    by_replies session same whole f (inl mild) =
        both next.session.is_closed closed
        (ap (λ (t : Session). t.is_closed) f.session ∙ or_false p.session.is_closed (closes (worst f.replies)) (ap (λ (t : Session). t.is_closed) same ∙ whole) mild)
    by_replies session same whole f (inr failed) =
        let sent_is : bytes ≡ (sent link p.session (agent_failed ∷ [])).bytes = f.bytes_are ∙ ap (λ (rs : List Reply). (sent link p.session rs).bytes) failed.0 in
        let format : one_format link p.session agent_failed ≡ 2 = by_chained link.is_chained request.format in
        ((request.correlator, sent_is ∙ one_sent link p.session agent_failed ∙ ap (λ (n : ℕ). written n request.correlator agent_failed.text) format), failed.1)

    by_found : (accepted : Accepted) → verdict s.session request objects ≡ Ok accepted → (o : Option Answer)
        → access_done settings s.session accepted.command accepted.given ≡ o → StaysOpen s.session o → IsFollowed asks p link s bytes next → Closing bytes
    by_found accepted is (Some a) found stays f =
        let otherwise : Plan = database_plan settings s.session s.statements accepted.command accepted.given in
        let at : p ≡ at_once s.statements a = ap (plan settings s.session s.statements) is ∙ ap (λ (x : Option Answer). at_once_or s.statements x otherwise) found in
        at_once_open a at stays f
    by_found accepted is None found stays f =
        let unicode : Bool = s.session.agreed.unicode in
        let otherwise : Plan = database_plan settings s.session s.statements accepted.command accepted.given in
        let at : p ≡ otherwise = ap (plan settings s.session s.statements) is ∙ ap (λ (x : Option Answer). at_once_or s.statements x otherwise) found in
        let W : Plan → Type 0 = λ q. WasDone asks q.doing s.asked next.asked next.statements [] f.replies in
        let d : Doing = doing unicode (padded_in unicode settings.rdb) accepted.command accepted.given s.statements in
        let mild : AreCalmOr s.asked next.asked f.replies = replies_mild d s.asked next.asked next.statements f.replies (doing_mild unicode (padded_in unicode settings.rdb) accepted.command accepted.given s.statements) (subst W at f.done) in
        by_replies s.session (ap (λ (q : Plan). q.session) at) still_open f mild

    by_verdict : (v : Result Accepted Refusal) → verdict s.session request objects ≡ v → IsFollowed asks p link s bytes next → Closing bytes
    by_verdict (Ok accepted) is f =
        by_found accepted is (access_done settings s.session accepted.command accepted.given) refl (access_open settings s.session accepted.command accepted.given) f
    by_verdict (Err refusal) is f =
        at_once_open (refused settings s.session refusal) (ap (plan settings s.session s.statements) is) (refl, refusal_mild settings s.session.agreed.unicode refusal) f

  excused_open : (session : Session) (command : List Dss) → session.is_closed ≡ false → (excused session command).session.is_closed ≡ false
  excused_open session [] e = e
  excused_open session (request ∷ objects) e = or_false session.is_closed false e refl

  by_outcome : (settings : Settings) (s next : Standing A) (command : List Dss) (bytes : List ℕ) → s.session.is_closed ≡ false → next.session.is_closed ≡ true
      → Exchanges asks settings s command bytes next ⊎ IsExcused s command bytes next → TellsFailure bytes × AskedInVain asks s.asked next.asked
  by_outcome settings s next [] bytes off on (inl e) = both _ on (ap (λ (t : Standing A). t.session.is_closed) e.1 ∙ off)
  by_outcome settings s next (request ∷ objects) bytes off on (inl (inl q)) = both _ on (ap (λ (t : Standing A). t.session.is_closed) q.same ∙ off)
  by_outcome settings s next (request ∷ objects) bytes off on (inl (inr d)) = by_verdict settings s next request objects bytes off on (verdict s.session request objects) refl d.followed
  by_outcome settings s next command bytes off on (inr e) = both _ on (ap (λ (t : Standing A). t.session.is_closed) e.same ∙ excused_open s.session command off)

  pub only_failure : OnlyFailureCloses asks
  only_failure settings s next command bytes d closed = (by_outcome settings s next command bytes d.still_open closed d.does).0

  pub only_unusable_answers : OnlyUnusableAnswersClose asks
  only_unusable_answers settings s next command bytes d closed = (by_outcome settings s next command bytes d.still_open closed d.does).1
