use Rattle.std.proofs.Common.{rules, ◌≡◌, ◌≤◌, [], ◌++◌, sym, ap, ◌∙◌, arith, length, length-append, append_assoc, append-nil}
use Rattle.std.specs.Prelude.{vec_capacity}
use Rattle.std.specs.Int.{w32, to_be_bytes, cast_unsigned}
use Rattle.ddm_objects.specs.declared.code_point.TheConstants.{SYNCCRD, XARETVAL}
use Rattle.ddm_objects.specs.Writing.{spelled, unset}
use Rattle.sqlam_replies.proofs.Sizes.{closed, kept_front, kept_same, mid, unopened}
use Rattle.sqlam_replies.proofs.xa_answer.push_synccrd.Goals as goal

pub returns-in_err-put-clause-full : goal.returns-in_err-put-clause-full
returns-in_err-put-clause-full c =
    let part = spelled XARETVAL c.to_be_bytes.result in
    let is : c.to_be_bytes.result ≡ to_be_bytes w32 (cast_unsigned w32 c.args.code) = search rules in
    let same = ap (λ x. length (spelled XARETVAL x)) is in
    let sum = length-append (spelled XARETVAL (to_be_bytes w32 (cast_unsigned w32 c.args.code))) [] in
    mid _ c.args.out.now c.open.new.out SYNCCRD [] part _ c.in_ok-container.ensures.ok c.in_ok-container.ensures.capacity c.in_err-put.ensures.full (omega (arith, same, sum))

pub returns-in_err-container-clause-kept : goal.returns-in_err-container-clause-kept
returns-in_err-container-clause-kept c = kept_same c.args.out.now c.open.new.out.items c.in_err-container.ensures.err

pub returns-in_err-container-clause-full : goal.returns-in_err-container-clause-full
returns-in_err-container-clause-full c = unopened _ c.args.out.now SYNCCRD _ c.in_err-container.ensures.full

pub returns-in_err-put-clause-kept : goal.returns-in_err-put-clause-kept
returns-in_err-put-clause-kept c = kept_front c.args.out.now unset c.put.new.out.items (c.in_err-put.ensures.err ∙ c.in_ok-container.ensures.ok)

pub returns : goal.returns
returns c =
    let is : c.to_be_bytes.result ≡ to_be_bytes w32 (cast_unsigned w32 c.args.code) = search rules in
    let part = spelled XARETVAL (to_be_bytes w32 (cast_unsigned w32 c.args.code)) in
    let items =
    c.in_ok-put.ensures.ok
    ∙ ap (λ x. c.open.new.out.items ++ spelled XARETVAL x) is
    ∙ ap (λ x. x ++ part) c.in_ok-container.ensures.ok
    ∙ append_assoc c.args.out.now.items unset part
    ∙ ap (λ x. c.args.out.now.items ++ (unset ++ x)) (sym (append-nil part)) in
    let more : vec_capacity c.args.out.now ≤ vec_capacity c.put.new.out = omega (arith, c.in_ok-container.ensures.capacity, c.in_ok-put.ensures.capacity) in
    let s = closed c.close.result c.args.out.now c.put.new.out c.close.new.out _ _ SYNCCRD (part ++ []) items c.in_ok-container.ensures.opened more c.close.ensures.ok c.close.ensures.err c.close.ensures.full c.close.ensures.capacity in
    record { ok = s.ok; kept = s.kept; full = s.full; capacity = s.capacity }
