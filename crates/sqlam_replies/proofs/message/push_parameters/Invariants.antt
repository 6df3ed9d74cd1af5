-- What was there stands in front, and what is there, with the objects still to come, is the whole.
use Rattle.std.proofs.Common.{◌≤◌, map}
use Rattle.std.specs.Prelude.{vec_capacity}
use Rattle.ddm_objects.specs.Objects.{Obj}
use Rattle.ddm_objects.specs.Writing.{spelled}
use Rattle.sqlam_replies.specs.Parameters.{parameter_of}
use Rattle.sqlam_replies.proofs.Appending.{SoFar}
use Rattle.sqlam_replies.proofs.message.push_parameters.Given as goal

abbrev pub invariant-loop-parameter : goal.invariant-loop-parameter
invariant-loop-parameter l =
    SoFar (λ (o : Obj). spelled o.code o.value) (map parameter_of l.parameters) l.parameter-index l.fn.out.items l.out.items
    × (vec_capacity l.fn.out ≤ vec_capacity l.out)
