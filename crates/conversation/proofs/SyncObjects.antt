-- What SYNCCTL is answered are objects.
use Rattle.std.proofs.Common.{ℕ, List, [], ◌∷◌, ◌++◌, Option, Some, None, ap}
use Rattle.std.specs.Prelude.{length, map}
use Rattle.std.specs.Int.{w16, w32, to_be_bytes, cast_unsigned}
use Rattle.ddm_objects.specs.declared.code_point.TheConstants.{PRPHRCLST, SYNCCRD, XARETVAL, XID, XIDCNT}
use Rattle.ddm_objects.specs.Objects.{Obj}
use Rattle.ddm_objects.specs.Writing.{spelled, NoTrees, Scalar, Container}
use Rattle.core_calls.specs.Answer as core
use Rattle.core_calls.specs.Answer.{in_doubt, xa}
use Rattle.xa_calls.specs.Numbers.{code_number}
use Rattle.xa_calls.specs.declared.code.XaCode.{XaCode}
use Rattle.xa_calls.specs.declared.code.XaCode.TheVariants.{Done}
use Rattle.xa_calls.specs.declared.request.Request.{Request}
use Rattle.xa_calls.specs.declared.request.Request.TheVariants.{Branch, Recover}
use Rattle.sqlam_replies.specs.Message.{scalar}
use Rattle.command_kit.specs.declared.statements.Statements.{Statements}
use Rattle.sql_commands.specs.SyncControl as does
use Rattle.conversation.proofs.SentObjects.{AllSent, IsSent, SendsObjects, container_tree, not_done_sent, objects_are_trees, trees_in}

abbrev returned : XaCode → Obj
returned code = scalar XARETVAL (to_be_bytes w32 (cast_unsigned w32 (code_number code)))

code_sent : (code : XaCode) → IsSent (does.code_card code)
code_sent code = (container_tree SYNCCRD _ (trees_in (returned code ∷ [])) (objects_are_trees (returned code ∷ []))).0

in_doubt_sent : (xids : List (List ℕ)) → IsSent (does.in_doubt_card xids)
in_doubt_sent xids =
    let listed : List Obj = scalar XIDCNT (to_be_bytes w16 (length xids)) ∷ map (scalar XID) xids in
    let code : List ℕ = (returned Done).value in
    (container_tree SYNCCRD _ (Scalar XARETVAL code (Container PRPHRCLST (trees_in listed) NoTrees))
    (ap (λ (z : List ℕ). spelled XARETVAL code ++ (spelled PRPHRCLST z ++ [])) (objects_are_trees listed))).0

recovered_sent : (k : Statements) (answer : core.Answer) → AllSent (does.after_recover k answer).replies
recovered_sent k (in_doubt xids) = (in_doubt_sent xids, tt)
recovered_sent k answer = not_done_sent k answer

called_sent : (r : Option Request) (k : Statements) (answer : core.Answer) → AllSent (does.after_call r k answer).replies
called_sent r k (xa code) = (code_sent code, tt)
called_sent r k answer = not_done_sent k answer

pub sync_sent : (r : Option Request) (k : Statements) → SendsObjects (does.asked_for r k)
sync_sent (Some Recover) k = recovered_sent k
sync_sent (Some (Branch verb xid)) k = called_sent (Some (Branch verb xid)) k
sync_sent None k = called_sent None k
