use Rattle.std.proofs.Common.{◌<◌, ◌≤◌, ◌+◌, ◌++◌, subst, ap, ◌∙◌, arith, length, map}
use Rattle.std.specs.Prelude.{vec_capacity, vec_len}
use Rattle.ddm_objects.specs.Objects.{Obj}
use Rattle.ddm_objects.specs.Writing.{spelled}
use Rattle.ddm_objects.specs.declared.code_point.TheConstants.{XID}
use Rattle.sqlam_replies.specs.Message.{scalar}
use Rattle.sqlam_replies.proofs.Appending.{room, shown_at, step}
use Rattle.sqlam_replies.proofs.Sizes.{late}
use Rattle.sqlam_replies.proofs.xa_answer.push_xids.Goals as goal

pub returns-in_err-put-clause-full : goal.returns-in_err-put-clause-full
returns-in_err-put-clause-full c =
    let lt : c.loop-xid.xid-index < length c.args.xids.now = omega (arith, c.loop-xid-test.true) in
    let here = shown_at (scalar XID) c.args.xids.now c.loop-xid.xid-index c.xid-item.result lt c.xid-item.is in
    let space = room (λ (o : Obj). spelled o.code o.value) (map (scalar XID) c.args.xids.now) c.loop-xid.xid-index (scalar XID c.xid-item.result) c.args.out.now.items c.loop-xid.out.items here c.loop-xid.invariant.0 in
    let less = subst (λ b. vec_capacity c.loop-xid.out < vec_len c.loop-xid.out + length (spelled XID b)) c.as_bytes.ensures.bytes c.in_err-put.ensures.full in
    late _ c.args.out.now c.loop-xid.out _ _ space c.loop-xid.invariant.1 less

pub loop-xid-preserved : goal.loop-xid-preserved
loop-xid-preserved c =
    let lt : c.loop-xid.xid-index < length c.args.xids.now = omega (arith, c.loop-xid-test.true) in
    let here = shown_at (scalar XID) c.args.xids.now c.loop-xid.xid-index c.xid-item.result lt c.xid-item.is in
    let more : vec_capacity c.args.out.now ≤ vec_capacity c.put.new.out = omega (arith, c.loop-xid.invariant.1, c.in_ok-put.ensures.capacity) in
    let is = c.in_ok-put.ensures.ok ∙ ap (λ b. c.loop-xid.out.items ++ spelled XID b) c.as_bytes.ensures.bytes in
    (step (λ (o : Obj). spelled o.code o.value) (map (scalar XID) c.args.xids.now) c.loop-xid.xid-index (scalar XID c.xid-item.result) c.args.out.now.items c.loop-xid.out.items c.put.new.out.items here is c.loop-xid.invariant.0, more)
