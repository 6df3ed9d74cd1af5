-- What is sent is DSSs of one object each.
use Rattle.std.proofs.Common.{◌≡◌, ◌⊎◌, ◌&&◌, ℕ, Bool, true, false, not, List, [], ◌∷◌, Option, Some, None, Ok, Err, Result, refl, sym, ap, subst, ◌∙◌, inl, inr}
use Rattle.std.specs.Prelude.{unwrap_or}
use Rattle.dss_frames.specs.Dss.{Dss}
use Rattle.dss_frames.specs.declared.fault.FrameFault.{FrameFault}
use Rattle.dss_frames.specs.Fault.{synerrcd}
use Rattle.core_calls.specs.Call.{Call}
use Rattle.core_calls.specs.Answer as core
use Rattle.drda_commands.specs.declared.refusal.Refusal.{Refusal}
use Rattle.drda_commands.specs.declared.table.Command.{Command}
use Rattle.drda_commands.specs.declared.table.Command.TheVariants.{Excsat, Accsec, Secchk, Accrdb, Excsqlimm, Prpsqlstt, Dscsqlstt, Excsqlstt, Opnqry, Cntqry, Clsqry, Rdbcmm, Rdbrllbck, Syncctl}
use Rattle.drda_commands.specs.Given.{Given}
use Rattle.drda_commands.specs.Judge.{Accepted}
use Rattle.drda_commands.specs.Values.{block_size_in, described_data_in, query_instance_in}
use Rattle.drda_names.specs.Names.{padded_in}
use Rattle.sections.specs.Cursors.{meant_cursor, opening_fault}
use Rattle.sqlam_replies.specs.declared.message.ReplyMessage.TheVariants as says
use Rattle.sqlam_replies.specs.Message.{Message, message_of}
use Rattle.command_kit.specs.declared.statements.Statements.{Statements}
use Rattle.command_kit.specs.Doing.{Doing, asking, finished}
use Rattle.command_kit.specs.Done.{WasDone}
use Rattle.sqlam_replies.specs.Reply.{Reply, message}
use Rattle.command_kit.specs.Reply.{resource_limit}
use Rattle.session_commands.specs.declared.session.Session.{Session}
use Rattle.session_commands.specs.Access.{Answer, access_done, refused}
use Rattle.session_commands.specs.Settings.{Settings}
use Rattle.cursor_commands.specs.Commands.{name_in}
use Rattle.sql_commands.specs.SyncControl.{request_of}
use Rattle.conversation.specs.Commands.{doing}
use Rattle.conversation.specs.declared.chain.Link.{Link}
use Rattle.conversation.specs.Done.{Exchanges, IsExcused, IsFollowed}
use Rattle.conversation.specs.Exchange.{Plan, at_once, at_once_or, database_plan, excused, link_of, plan, plan_for, sent}
use Rattle.conversation.specs.Laws.{AreSentObjects, FirstRepliesAreOneTree, IsOneTree, RepliesAreTrees, asks_nothing, is_access, sent_bytes, verdict}
use Rattle.conversation.specs.Replies.{fault_bytes}
use Rattle.conversation.specs.Standing.{Standing}
use Rattle.conversation.proofs.AccessObjects.{HasTree, done_tree, refusal_tree}
use Rattle.conversation.proofs.CursorObjects.{closed_sent, fetched_sent, opening_sent}
use Rattle.conversation.proofs.SentObjects.{AllSent, IsTree, SendsObjects, limit_tree, message_tree, one_tree, replies_are_objects}
use Rattle.conversation.proofs.Single.{at_once_sent, one_format, one_sent}
use Rattle.conversation.proofs.SqlObjects.{sql_sent}
use Rattle.conversation.proofs.SyncObjects.{sync_sent}

-- ---- what a plan sends

doing_sent : (unicode : Bool) (rdb : List ℕ) (command : Command) (given : Given) (k : Statements) → SendsObjects (doing unicode rdb command given k)
doing_sent unicode rdb Opnqry given k = opening_sent rdb (opening_fault (name_in given) k.sections) k (name_in given) (unwrap_or (block_size_in given) 0) (described_data_in given)
doing_sent unicode rdb Cntqry given k = fetched_sent rdb k (name_in given) (block_size_in given) (meant_cursor (name_in given) (query_instance_in given) k.sections)
doing_sent unicode rdb Clsqry given k = closed_sent rdb k (name_in given) (meant_cursor (name_in given) (query_instance_in given) k.sections)
doing_sent unicode rdb Syncctl given k = sync_sent (request_of given) k
doing_sent unicode rdb Excsat given k = sql_sent unicode rdb Excsat given k
doing_sent unicode rdb Accsec given k = sql_sent unicode rdb Accsec given k
doing_sent unicode rdb Secchk given k = sql_sent unicode rdb Secchk given k
doing_sent unicode rdb Accrdb given k = sql_sent unicode rdb Accrdb given k
doing_sent unicode rdb Excsqlimm given k = sql_sent unicode rdb Excsqlimm given k
doing_sent unicode rdb Prpsqlstt given k = sql_sent unicode rdb Prpsqlstt given k
doing_sent unicode rdb Dscsqlstt given k = sql_sent unicode rdb Dscsqlstt given k
doing_sent unicode rdb Excsqlstt given k = sql_sent unicode rdb Excsqlstt given k
doing_sent unicode rdb Rdbcmm given k = sql_sent unicode rdb Rdbcmm given k
doing_sent unicode rdb Rdbrllbck given k = sql_sent unicode rdb Rdbrllbck given k

at_once_or_sent : (command : Command) (k : Statements) (o : Option Answer) (otherwise : Plan) → HasTree command o → SendsObjects otherwise.doing → SendsObjects (at_once_or k o otherwise).doing
at_once_or_sent command k (Some answer) otherwise tree others = (tree.0, tt)
at_once_or_sent command k None otherwise tree others = others

plan_sent : (settings : Settings) (session : Session) (k : Statements) (v : Result Accepted Refusal) → SendsObjects (plan settings session k v).doing
plan_sent settings session k (Ok accepted) =
    let unicode : Bool = session.agreed.unicode in
    at_once_or_sent accepted.command k (access_done settings session accepted.command accepted.given) (database_plan settings session k accepted.command accepted.given)
    (done_tree settings session accepted.command accepted.given) (doing_sent unicode (padded_in unicode settings.rdb) accepted.command accepted.given k)
plan_sent settings session k (Err refusal) = ((refusal_tree settings session.agreed.unicode refusal).0, tt)

-- ---- what is sent

sent_objects : (link : Link) (session next : Session) (replies : List Reply) (bytes : List ℕ) → AllSent replies → next ≡ (sent link session replies).session → bytes ≡ (sent link session replies).bytes
    → AreSentObjects link.correlator (link.is_chained && not next.is_broken) bytes
sent_objects link session next replies bytes all goes are =
    let found = replies_are_objects link.correlator (link.is_chained && not (sent link session replies).session.is_broken) replies all in
    (found.0, are ∙ found.1 ∙ ap (λ (t : Session). sent_bytes link.correlator (link.is_chained && not t.is_broken) found.0) (sym goes))

abbrev IsOneOrNone : List ℕ → Type 0
IsOneOrNone bytes = (bytes ≡ []) ⊎ IsOneTree bytes

excused_tree : (session : Session) (request : Dss) (objects : List Dss) (bytes : List ℕ) → bytes ≡ (excused session (request ∷ objects)).bytes → IsOneOrNone bytes
excused_tree session request objects bytes sent_is =
    inr (one_tree (one_format (link_of request objects) session resource_limit) request.correlator resource_limit bytes limit_tree
    (sent_is ∙ one_sent (link_of request objects) session resource_limit))

module _ {A : Type 0} (asks : A → Call → core.Answer → A → Type 0) where
  replies_sent : (d : Doing) (old new : A) (statements : Statements) (replies : List Reply) → SendsObjects d → WasDone asks d old new statements [] replies → AllSent replies
  replies_sent (finished d) old new statements replies all w = subst AllSent (sym w.1.replied) all
  replies_sent (asking call after) old new statements replies all w = subst AllSent (sym w.answered.replied) (all w.answer)

  module _ (settings : Settings) (s next : Standing A) (request : Dss) (objects : List Dss) (bytes : List ℕ) where
    abbrev p : Plan
    p = plan_for settings s.session s.statements request objects

    abbrev link : Link
    link = link_of request objects

    -- ---- of every command

    abbrev AreReplies : Type 0
    AreReplies = AreSentObjects request.correlator (link.is_chained && not next.session.is_broken) bytes

    followed_objects : IsFollowed asks p link s bytes next → AreReplies
    followed_objects f =
        let planned : SendsObjects p.doing = plan_sent settings s.session s.statements (verdict s.session request objects) in
        sent_objects link p.session next.session f.replies bytes (replies_sent p.doing s.asked next.asked next.statements f.replies planned f.done) f.session f.bytes_are

    by_outcome : Exchanges asks settings s (request ∷ objects) bytes next ⊎ IsExcused s (request ∷ objects) bytes next → AreReplies
    by_outcome (inl (inl q)) = ([], q.silent)
    by_outcome (inl (inr d)) = followed_objects d.followed
    by_outcome (inr e) = sent_objects link s.session next.session (resource_limit ∷ []) bytes (limit_tree.0, tt) (ap (λ (t : Standing A). t.session) e.same) e.reply

    -- ---- of one that is refused, or comes before those of SQL

    at_once_tree : (a : Answer) → p ≡ at_once s.statements a → IsTree a.reply → IsFollowed asks p link s bytes next → IsOneOrNone bytes
    at_once_tree a at tree f = inr (one_tree (one_format link a.session a.reply) request.correlator a.reply bytes tree (at_once_sent asks p a link s next bytes at f))

    by_found : (accepted : Accepted) → verdict s.session request objects ≡ Ok accepted → is_access accepted.command ≡ true → (o : Option Answer)
        → access_done settings s.session accepted.command accepted.given ≡ o → HasTree accepted.command o → IsFollowed asks p link s bytes next → IsOneOrNone bytes
    by_found accepted is access (Some a) found tree f =
        let otherwise : Plan = database_plan settings s.session s.statements accepted.command accepted.given in
        let at : p ≡ at_once s.statements a = ap (plan settings s.session s.statements) is ∙ ap (λ (x : Option Answer). at_once_or s.statements x otherwise) found in
        at_once_tree a at tree f
    by_found accepted is access None found tree f = let clash : true ≡ false = sym access ∙ tree in absurd (cc clash)

    by_verdict : (v : Result Accepted Refusal) → verdict s.session request objects ≡ v → asks_nothing v ≡ true → IsFollowed asks p link s bytes next → IsOneOrNone bytes
    by_verdict (Ok accepted) is access f =
        by_found accepted is access (access_done settings s.session accepted.command accepted.given) refl (done_tree settings s.session accepted.command accepted.given) f
    by_verdict (Err refusal) is access f =
        at_once_tree (refused settings s.session refusal) (ap (plan settings s.session s.statements) is) (refusal_tree settings s.session.agreed.unicode refusal) f

    first_outcome : asks_nothing (verdict s.session request objects) ≡ true → Exchanges asks settings s (request ∷ objects) bytes next ⊎ IsExcused s (request ∷ objects) bytes next → IsOneOrNone bytes
    first_outcome access (inl (inl q)) = inl q.silent
    first_outcome access (inl (inr d)) = by_verdict (verdict s.session request objects) refl access d.followed
    first_outcome access (inr e) = excused_tree s.session request objects bytes e.reply

  pub commands_are_trees : RepliesAreTrees asks
  commands_are_trees settings s next request objects bytes d = by_outcome settings s next request objects bytes d.does

  pub first_are_one_tree : FirstRepliesAreOneTree asks
  first_are_one_tree settings s next request objects bytes access d = first_outcome settings s next request objects bytes access d.does

pub faults_are_trees : (fault : FrameFault) → IsOneTree (fault_bytes fault)
faults_are_trees fault =
    let told : Message = message_of (says.Syntax (synerrcd fault.code)) in
    one_tree 2 fault.correlator (message told) (fault_bytes fault) (message_tree told) refl
