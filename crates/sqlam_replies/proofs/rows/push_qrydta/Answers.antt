use Rattle.std.proofs.Common.{[], arith, ◌≤◌, ◌++◌, ap, ◌∙◌, append_assoc}
use Rattle.ddm_objects.specs.declared.code_point.TheConstants.{QRYDTA}
use Rattle.sqlam_replies.specs.Rows.{rows_text}
use Rattle.std.specs.Prelude.{vec_capacity}
use Rattle.ddm_objects.specs.Writing.{unset}
use Rattle.sqlam_replies.proofs.Sizes.{closed, kept_mid, kept_same, mid, unopened}
use Rattle.sqlam_replies.proofs.rows.push_qrydta.Goals as goal

pub returns-in_err-push_rows-clause-full : goal.returns-in_err-push_rows-clause-full
returns-in_err-push_rows-clause-full c =
    let text = rows_text c.args.rows.now c.args.from c.args.count in
    mid _ c.args.out.now c.open.new.out QRYDTA [] text text c.in_ok-container.ensures.ok c.in_ok-container.ensures.capacity c.in_err-push_rows.ensures.full (omega arith)

pub returns-in_err-container-clause-kept : goal.returns-in_err-container-clause-kept
returns-in_err-container-clause-kept c = kept_same c.args.out.now c.open.new.out.items c.in_err-container.ensures.err

pub returns-in_err-container-clause-full : goal.returns-in_err-container-clause-full
returns-in_err-container-clause-full c = unopened _ c.args.out.now QRYDTA _ c.in_err-container.ensures.full

pub returns-in_err-push_rows-clause-kept : goal.returns-in_err-push_rows-clause-kept
returns-in_err-push_rows-clause-kept c = kept_mid c.args.out.now c.open.new.out _ unset c.in_ok-container.ensures.ok c.in_err-push_rows.ensures.kept

pub returns : goal.returns
returns c =
    let text = rows_text c.args.rows.now c.args.from c.args.count in
    let all = c.in_ok-push_rows.ensures.ok ∙ ap (λ x. x ++ text) c.in_ok-container.ensures.ok ∙ append_assoc c.args.out.now.items unset text in
    let more : vec_capacity c.args.out.now ≤ vec_capacity c.push_rows.new.out = omega (arith, c.in_ok-container.ensures.capacity, c.in_ok-push_rows.ensures.capacity) in
    let s = closed c.close.result c.args.out.now c.push_rows.new.out c.close.new.out _ _ QRYDTA text all c.in_ok-container.ensures.opened more c.close.ensures.ok c.close.ensures.err c.close.ensures.full c.close.ensures.capacity in
    record { ok = s.ok; kept = s.kept; full = s.full; capacity = s.capacity }
