use Rattle.std.proofs.Common.{[], List, ℕ, ap, ◌∙◌, arith, length, ◌≤◌, ◌++◌, append_assoc}
use Rattle.ddm_objects.specs.declared.code_point.TheConstants.{QRYDSC}
use Rattle.fdoca.specs.Writing.{answer_descriptor}
use Rattle.row_values.specs.Schema.{Schema, picked}
use Rattle.std.specs.Prelude.{vec_capacity}
use Rattle.ddm_objects.specs.Writing.{unset}
use Rattle.sqlam_replies.proofs.Sizes.{closed, kept_front, kept_same, mid, unopened}
use Rattle.sqlam_replies.proofs.rows.push_descriptor.Goals as goal

pub returns-in_err-write_descriptor-clause-full : goal.returns-in_err-write_descriptor-clause-full
returns-in_err-write_descriptor-clause-full c =
    let l = c.args.rows.now in
    let same =
    ap (λ (s : Schema). length (answer_descriptor (picked s.columns c.selected.result.now))) c.schema.ensures
    ∙ ap (λ (places : List ℕ). length (answer_descriptor (picked l.schema.columns places))) c.selected.ensures.places in
    mid _ c.args.out.now c.open.new.out QRYDSC [] (answer_descriptor (picked c.schema.result.now.columns c.selected.result.now)) (answer_descriptor (picked l.schema.columns l.selected)) c.in_ok-container.ensures.ok c.in_ok-container.ensures.capacity c.in_err-write_descriptor.ensures.full (omega (arith, same))

pub returns-in_err-container-clause-kept : goal.returns-in_err-container-clause-kept
returns-in_err-container-clause-kept c = kept_same c.args.out.now c.open.new.out.items c.in_err-container.ensures.err

pub returns-in_err-container-clause-full : goal.returns-in_err-container-clause-full
returns-in_err-container-clause-full c = unopened _ c.args.out.now QRYDSC _ c.in_err-container.ensures.full

pub returns-in_err-write_descriptor-clause-kept : goal.returns-in_err-write_descriptor-clause-kept
returns-in_err-write_descriptor-clause-kept c = kept_front c.args.out.now unset c.write_descriptor.new.out.items (c.in_err-write_descriptor.ensures.err ∙ c.in_ok-container.ensures.ok)

pub returns : goal.returns
returns c =
    let l = c.args.rows.now in
    let text = answer_descriptor (picked l.schema.columns l.selected) in
    let same =
    ap (λ (s : Schema). answer_descriptor (picked s.columns c.selected.result.now)) c.schema.ensures
    ∙ ap (λ (places : List ℕ). answer_descriptor (picked l.schema.columns places)) c.selected.ensures.places in
    let all =
    c.in_ok-write_descriptor.ensures.ok
    ∙ ap (λ x. c.open.new.out.items ++ x) same
    ∙ ap (λ x. x ++ text) c.in_ok-container.ensures.ok
    ∙ append_assoc c.args.out.now.items unset text in
    let more : vec_capacity c.args.out.now ≤ vec_capacity c.write_descriptor.new.out = omega (arith, c.in_ok-container.ensures.capacity, c.in_ok-write_descriptor.ensures.capacity) in
    let s = closed c.close.result c.args.out.now c.write_descriptor.new.out c.close.new.out _ _ QRYDSC text all c.in_ok-container.ensures.opened more c.close.ensures.ok c.close.ensures.err c.close.ensures.full c.close.ensures.capacity in
    record { ok = s.ok; kept = s.kept; full = s.full; capacity = s.capacity }
