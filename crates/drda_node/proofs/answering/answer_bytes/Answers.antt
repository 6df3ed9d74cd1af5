use Rattle.std.proofs.Common.{◌≡◌, ◌∙◌, ◌++◌, List, ℕ, true, false, Some, sym, ap, subst, slice_get}
use Rattle.drda_node.specs.Register.{machine}
use Rattle.drda_node.specs.Records.{sends}
use Rattle.drda_node.specs.Happening.{BreaksOff, refusal}
use Rattle.drda_node.proofs.Refusing.{err_so, no_bytes_taken, ok_so}
use Rattle.drda_node.proofs.answering.answer_bytes.Goals as goal

pub returns-then-not-has-clause-happens : goal.returns-then-not-has-clause-happens
returns-then-not-has-clause-happens g c =
    let m = machine c.args.node.now in
    ok_so c.refuse.result
    (λ said. no_bytes_taken (slice_get m.row c.args.number) m c.args.number c.args.bytes.now c.refuse.new.text.items
    (λ there is.
    let open_now : c.has.result ≡ true = c.has.ensures.1 (there, subst (λ (k : ℕ). slice_get m.row k ≡ Some (Some there)) (sym c.from-place.ensures) is) in
    let wrong : true ≡ false = sym open_now ∙ c.if-not-has.true in
    absurd (cc wrong))
    (said ∙ ap (λ (z : List ℕ). z ++ refusal c.args.number 2) c.requires))
    c.refuse.ensures

pub returns-then-size-clause-breaks_off : goal.returns-then-size-clause-breaks_off
returns-then-size-clause-breaks_off g c =
    subst (λ (k : ℕ). BreaksOff (machine c.args.node.now) (sends k c.args.bytes.now) (machine c.hear_all.new.node)) c.from-place.ensures c.hear_all.ensures.anyway

pub returns-in_err-push_record-clause-breaks_off : goal.returns-in_err-push_record-clause-breaks_off
returns-in_err-push_record-clause-breaks_off g c =
    err_so c.from_residual-in_err-push_record.result
    (subst (λ (k : ℕ). BreaksOff (machine c.args.node.now) (sends k c.args.bytes.now) (machine c.hear_all.new.node)) c.from-place.ensures c.hear_all.ensures.anyway)
