-- What SYNCCTL does (DRDA V5 volume 3: SYNCCTL, SYNCCRD, RDBUPDRM; C193 chapter 5).
use Rattle.std.specs.Prelude.{false, List, ℕ, [], ◌∷◌, Option, Some, unwrap_or}
use Rattle.ddm_objects.specs.declared.code_point.TheConstants.{XAFLAGS, XID}
use Rattle.xa_calls.specs.Numbers.{code_number}
use Rattle.xa_calls.specs.Request.{request_in}
use Rattle.xa_calls.specs.declared.code.XaCode.{XaCode}
use Rattle.xa_calls.specs.declared.code.XaCode.TheVariants as code
use Rattle.xa_calls.specs.declared.request.Request.{Request}
use Rattle.xa_calls.specs.declared.request.Request.TheVariants as request
use Rattle.xa_calls.specs.declared.request.Verb.{Verb}
use Rattle.xa_calls.specs.declared.request.Verb.TheVariants as verb
use Rattle.drda_commands.specs.Given.{Given}
use Rattle.drda_commands.specs.Values.{brought, sync_type_in}
use Rattle.drda_commands.specs.declared.table.ItemKind.TheVariants.{Parameter}
use Rattle.core_calls.specs.Answer.{Answer, in_doubt, xa}
use Rattle.core_calls.specs.Call as call
use Rattle.sqlam_replies.specs.Message.{synccrd, synccrd_with}
use Rattle.sqlam_replies.specs.Reply.{Reply, object}
use Rattle.command_kit.specs.declared.statements.Statements.{Statements}
use Rattle.command_kit.specs.Statements.{unit_behind}
use Rattle.command_kit.specs.Doing.{Doing, Done, answered, asking}
use Rattle.command_kit.specs.NotDone.{not_done}

-- the call that the command names by its SYNCTYPE, XAFLAGS and XID; None where they name none
abbrev pub request_of : Given → Option Request
request_of given = request_in (unwrap_or (sync_type_in given) 0) (brought Parameter XAFLAGS given) (brought Parameter XID given)

-- ---- what is kept

-- a start that is done begins the telling of changes anew; an end does so too, and closes all cursors
abbrev pub verb_behind : Verb → Statements → Statements
verb_behind verb.Start k = record k { is_change_told = false }
verb_behind verb.Join k = record k { is_change_told = false }
verb_behind (verb.End ending) k = unit_behind false k
verb_behind v k = k

-- any other call, and one that is not done, leaves all
abbrev pub call_behind : Option Request → XaCode → Statements → Statements
call_behind (Some (request.Branch v xid)) code.Done k = verb_behind v k
call_behind r c k = k

-- ---- what is replied

-- XARETVAL is the code
abbrev pub code_card : XaCode → Reply
code_card c = object (synccrd (code_number c))

-- the list of the branches in doubt is behind it
abbrev pub in_doubt_card : List (List ℕ) → Reply
in_doubt_card xids = object (synccrd_with (code_number code.Done) xids)

-- ---- what is done

abbrev pub after_recover : Statements → Answer → Done
after_recover k (in_doubt xids) = answered k (in_doubt_card xids ∷ [])
after_recover k answer = not_done k answer

abbrev pub after_call : Option Request → Statements → Answer → Done
after_call r k (xa c) = answered (call_behind r c k) (code_card c ∷ [])
after_call r k answer = not_done k answer

-- a recover is answered by the branches in doubt, every other call by its code
abbrev pub asked_for : Option Request → Statements → Doing
asked_for (Some request.Recover) k = asking (call.xa (Some request.Recover)) (after_recover k)
asked_for r k = asking (call.xa r) (after_call r k)

abbrev pub doing : Given → Statements → Doing
doing given k = asked_for (request_of given) k
