-- What a conversation does with its next command: the replies, and how it goes on.
use Rattle.std.specs.Prelude.{ℕ, ◌+◌, Bool, false, not, ◌&&◌, ◌||◌, max, nat_le, List, [], ◌∷◌, ◌++◌, Option, Some, None, Result, Ok, Err, if◌then◌else◌}
use Rattle.dss_frames.specs.Dss.{Dss}
use Rattle.dss_frames.specs.Format.{is_chained, continues_on_error}
use Rattle.dss_frames.specs.Writing.{written}
use Rattle.drda_commands.specs.declared.refusal.Refusal.{Refusal}
use Rattle.drda_commands.specs.declared.table.Command.{Command}
use Rattle.drda_commands.specs.Given.{Given, contents_of}
use Rattle.drda_commands.specs.Judge.{Accepted, judged}
use Rattle.drda_names.specs.Names.{padded_in}
use Rattle.sqlam_replies.specs.Reply.{Reply}
use Rattle.command_kit.specs.Reply.{resource_limit}
use Rattle.command_kit.specs.Doing.{Doing, answered, finished}
use Rattle.command_kit.specs.declared.statements.Statements.{Statements}
use Rattle.sqlam_replies.specs.Message.{error, permanent_damage}
use Rattle.conversation.specs.Commands.{doing}
use Rattle.session_commands.specs.declared.session.Session.{Session}
use Rattle.session_commands.specs.Access.{Answer, access_done, refused}
use Rattle.session_commands.specs.Settings.{Settings}
use Rattle.conversation.specs.declared.chain.Link.{Link}

-- ---- what a command is to do

-- what is remembered then, but for its chain, and what comes to its replies
pub record Plan : Type 0 where
  pub session : Session
  pub doing : Doing

-- one reply, and nothing is asked
abbrev pub at_once : Statements → Answer → Plan
at_once k answer = record { session = answer.session; doing = finished (answered k (answer.reply ∷ [])) }

abbrev pub at_once_or : Statements → Option Answer → Plan → Plan
at_once_or k (Some answer) otherwise = at_once k answer
at_once_or k None otherwise = otherwise

-- a command on the database leaves what is remembered
abbrev pub database_plan : Settings → Session → Statements → Command → Given → Plan
database_plan settings session k command given =
    record { session = session; doing = doing session.agreed.unicode (padded_in session.agreed.unicode settings.rdb) command given k }

abbrev pub plan : Settings → Session → Statements → Result Accepted Refusal → Plan
plan settings session k (Ok accepted) = at_once_or k (access_done settings session accepted.command accepted.given) (database_plan settings session k accepted.command accepted.given)
plan settings session k (Err refusal) = at_once k (refused settings session refusal)

abbrev pub plan_for : Settings → Session → Statements → Dss → List Dss → Plan
plan_for settings session k request objects = plan settings session k (judged session.stage session.agreed.unicode request.contents (contents_of objects))

-- ---- chains

-- another command follows in the chain: the last DSS says so
abbrev pub goes_on_behind : Bool → List Dss → Bool
goes_on_behind chained [] = chained
goes_on_behind chained (dss ∷ dsss) = goes_on_behind (is_chained dss.format) dsss

abbrev pub goes_on : List Dss → Bool
goes_on dsss = goes_on_behind false dsss

-- where a command stands in its chain
abbrev pub link_of : Dss → List Dss → Link
link_of request objects = record { format = record { byte = request.format }; correlator = request.correlator; is_chained = goes_on (request ∷ objects) }

-- the greatest severity of some replies
abbrev pub worst : List Reply → ℕ
worst [] = 0
worst (reply ∷ others) = max reply.severity (worst others)

-- Severity PRMDMG (64) closes the conversation.
abbrev pub closes : ℕ → Bool
closes severity = nat_le permanent_damage severity

-- Severity ERROR (8) and above breaks the chain, unless the request says to go on after an error, as it
-- can't where the conversation is closed.
abbrev pub breaks : ℕ → ℕ → Bool
breaks severity format = closes severity || (nat_le error severity && not (continues_on_error format))

-- ---- what is sent (DRDA V5 volume 3, DSS)

-- The chain's bits of a reply before these others of its command: 40, another DSS of the chain follows, and
-- 10, it has the same correlator. Behind the last one is what belongs to the next command, if to any.
abbrev pub chain_bits : Bool → List Reply → ℕ
chain_bits chained [] = if chained then 0x40 else 0
chain_bits chained (reply ∷ others) = 0x50

-- each reply in a DSS of its own
abbrev pub in_dsss : ℕ → Bool → List Reply → List ℕ
in_dsss correlator chained [] = []
in_dsss correlator chained (reply ∷ others) =
    written (chain_bits chained others + reply.dss_type) correlator reply.text ++ in_dsss correlator chained others

-- how the conversation goes on, and what is sent
pub record Exchange : Type 0 where
  pub session : Session
  pub bytes : List ℕ

-- How a conversation goes on behind replies of this severity.
abbrev pub behind : Session → Link → ℕ → Session
behind session link severity = record session {
  is_broken = link.is_chained && breaks severity link.format.byte;
  is_closed = session.is_closed || closes severity;
}

-- The replies of a command, none of which sends nothing. They are chained to what follows where the command
-- is and the chain is not broken.
abbrev pub sent : Link → Session → List Reply → Exchange
sent link session replies =
    let next = behind session link (worst replies) in
    record { session = next; bytes = in_dsss link.correlator (link.is_chained && not next.is_broken) replies }

-- a command of a broken chain is read and not done; the chain ends with the first that is not chained
abbrev pub passed_over : Session → Bool → Session
passed_over session chained = record session { is_broken = chained }

-- a command that found no memory: nothing is done
abbrev pub excused : Session → List Dss → Exchange
excused session [] = record { session = session; bytes = [] }
excused session (request ∷ objects) = sent (link_of request objects) session (resource_limit ∷ [])
