use Rattle.std.proofs.Common.{rules, ◌≡◌, ◌∙◌, ◌++◌, List, ℕ, true, false, Some, sym, ap, subst, slice_get}
use Rattle.drda_node.specs.Machine.{IsOpen, lost}
use Rattle.drda_node.specs.Register.{machine}
use Rattle.drda_node.specs.Happening.{refusal}
use Rattle.drda_node.proofs.Refusing.{err_so, lost_anyway, no_loss, ok_so}
use Rattle.drda_node.proofs.answering.answer_lost.Goals as goal

pub returns-then-not-has-clause-happens : goal.returns-then-not-has-clause-happens
returns-then-not-has-clause-happens g c =
    let m = machine c.args.node.now in
    ok_so c.refuse.result
    (λ said. no_loss (slice_get m.row c.args.number) m c.args.number c.refuse.new.text.items
    (λ there is.
    let open_now : c.has.result ≡ true = c.has.ensures.1 (there, subst (λ (k : ℕ). slice_get m.row k ≡ Some (Some there)) (sym c.from-place.ensures) is) in
    let wrong : true ≡ false = sym open_now ∙ c.if-not-has.true in
    absurd (cc wrong))
    (said ∙ ap (λ (z : List ℕ). z ++ refusal c.args.number 2) c.requires))
    c.refuse.ensures

pub returns-clause-breaks_off : goal.returns-clause-breaks_off
returns-clause-breaks_off g c =
    let first = machine c.args.node.now in
    let last = machine c.lose_at.new.self in
    let there : c.has.result ≡ true = search rules in
    err_so c.push_record.result
    (lost_anyway first last c.args.number (subst (λ (k : ℕ). IsOpen first k) c.from-place.ensures (c.has.ensures.0 there)) (subst (λ (k : ℕ). last ≡ lost first k) c.from-place.ensures c.lose_at.ensures.machine))
