use Rattle.std.proofs.Common.{rules, ◌≡◌, ◌≤◌, [], ◌∷◌, ◌++◌, ap, ◌∙◌, append_assoc, arith, length, length-append, sym, append-nil}
use Rattle.std.specs.Int.{w32, to_be_bytes, cast_unsigned}
use Rattle.std.specs.Prelude.{vec_capacity}
use Rattle.ddm_objects.specs.declared.code_point.TheConstants.{SYNCCRD, XARETVAL, PRPHRCLST}
use Rattle.ddm_objects.specs.Writing.{spelled, unset}
use Rattle.sqlam_replies.specs.Message.{objects, scalar, xid_list}
use Rattle.sqlam_replies.proofs.Sizes.{between, closed, kept_front, kept_mid, kept_same, mid, unopened}
use Rattle.sqlam_replies.proofs.xa_answer.push_synccrd_with.Goals as goal

pub returns-in_err-put-clause-full : goal.returns-in_err-put-clause-full
returns-in_err-put-clause-full c =
    let part = spelled XARETVAL c.to_be_bytes.result in
    let is : c.to_be_bytes.result ≡ to_be_bytes w32 (cast_unsigned w32 c.args.code) = search rules in
    let same = ap (λ x. length (spelled XARETVAL x)) is in
    let sum = length-append (spelled XARETVAL (to_be_bytes w32 (cast_unsigned w32 c.args.code))) (objects (scalar PRPHRCLST (xid_list c.args.xids.now) ∷ [])) in
    mid _ c.args.out.now c.open.new.out SYNCCRD [] part _ c.in_ok-container.ensures.ok c.in_ok-container.ensures.capacity c.in_err-put.ensures.full (omega (arith, same, sum))

pub returns-in_err-push_xid_list-clause-kept : goal.returns-in_err-push_xid_list-clause-kept
returns-in_err-push_xid_list-clause-kept c =
    let is : c.to_be_bytes.result ≡ to_be_bytes w32 (cast_unsigned w32 c.args.code) = search rules in
    let front = spelled XARETVAL (to_be_bytes w32 (cast_unsigned w32 c.args.code)) in
    let items =
    c.in_ok-put.ensures.ok
    ∙ ap (λ x. c.open.new.out.items ++ spelled XARETVAL x) is
    ∙ ap (λ x. x ++ front) c.in_ok-container.ensures.ok
    ∙ append_assoc c.args.out.now.items unset front in
    kept_mid c.args.out.now c.put.new.out _ (unset ++ front) items c.in_err-push_xid_list.ensures.kept

pub returns-in_err-push_xid_list-clause-full : goal.returns-in_err-push_xid_list-clause-full
returns-in_err-push_xid_list-clause-full c =
    let is : c.to_be_bytes.result ≡ to_be_bytes w32 (cast_unsigned w32 c.args.code) = search rules in
    let front = spelled XARETVAL (to_be_bytes w32 (cast_unsigned w32 c.args.code)) in
    let items =
    c.in_ok-put.ensures.ok
    ∙ ap (λ x. c.open.new.out.items ++ spelled XARETVAL x) is
    ∙ ap (λ x. x ++ front) c.in_ok-container.ensures.ok
    ∙ append_assoc c.args.out.now.items unset front in
    let more : vec_capacity c.args.out.now ≤ vec_capacity c.put.new.out = omega (arith, c.in_ok-container.ensures.capacity, c.in_ok-put.ensures.capacity) in
    mid _ c.args.out.now c.put.new.out SYNCCRD front _ _ items more c.in_err-push_xid_list.ensures.full (between front (spelled PRPHRCLST (xid_list c.args.xids.now)) [])

pub returns-in_err-container-clause-kept : goal.returns-in_err-container-clause-kept
returns-in_err-container-clause-kept c = kept_same c.args.out.now c.open.new.out.items c.in_err-container.ensures.err

pub returns-in_err-container-clause-full : goal.returns-in_err-container-clause-full
returns-in_err-container-clause-full c = unopened _ c.args.out.now SYNCCRD _ c.in_err-container.ensures.full

pub returns-in_err-put-clause-kept : goal.returns-in_err-put-clause-kept
returns-in_err-put-clause-kept c = kept_front c.args.out.now unset c.put.new.out.items (c.in_err-put.ensures.err ∙ c.in_ok-container.ensures.ok)

pub returns : goal.returns
returns c =
    let is : c.to_be_bytes.result ≡ to_be_bytes w32 (cast_unsigned w32 c.args.code) = search rules in
    let front = spelled XARETVAL (to_be_bytes w32 (cast_unsigned w32 c.args.code)) in
    let list = spelled PRPHRCLST (xid_list c.args.xids.now) in
    let items =
    c.in_ok-put.ensures.ok
    ∙ ap (λ x. c.open.new.out.items ++ spelled XARETVAL x) is
    ∙ ap (λ x. x ++ front) c.in_ok-container.ensures.ok
    ∙ append_assoc c.args.out.now.items unset front in
    let all =
    c.in_ok-push_xid_list.ensures.ok
    ∙ ap (λ x. x ++ list) items
    ∙ append_assoc c.args.out.now.items (unset ++ front) list
    ∙ ap (λ x. c.args.out.now.items ++ (unset ++ x)) (ap (λ x. front ++ x) (sym (append-nil list))) in
    let more : vec_capacity c.args.out.now ≤ vec_capacity c.push_xid_list.new.out = omega (arith, c.in_ok-container.ensures.capacity, c.in_ok-put.ensures.capacity, c.in_ok-push_xid_list.ensures.capacity) in
    let s = closed c.close.result c.args.out.now c.push_xid_list.new.out c.close.new.out _ _ SYNCCRD (front ++ (list ++ [])) all c.in_ok-container.ensures.opened more c.close.ensures.ok c.close.ensures.err c.close.ensures.full c.close.ensures.capacity in
    record { ok = s.ok; kept = s.kept; full = s.full; capacity = s.capacity }
