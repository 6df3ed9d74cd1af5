-- What was there stands in front, and what is there, with the objects still to come, is the whole.
use Rattle.std.proofs.Common.{◌≤◌, map}
use Rattle.std.specs.Prelude.{vec_capacity}
use Rattle.ddm_objects.specs.Objects.{Obj}
use Rattle.ddm_objects.specs.Writing.{spelled}
use Rattle.ddm_objects.specs.declared.code_point.TheConstants.{XID}
use Rattle.sqlam_replies.specs.Message.{scalar}
use Rattle.sqlam_replies.proofs.Appending.{SoFar}
use Rattle.sqlam_replies.proofs.xa_answer.push_xids.Given as goal

abbrev pub invariant-loop-xid : goal.invariant-loop-xid
invariant-loop-xid l =
    SoFar (λ (o : Obj). spelled o.code o.value) (map (scalar XID) l.xids) l.xid-index l.fn.out.items l.out.items
    × (vec_capacity l.fn.out ≤ vec_capacity l.out)
