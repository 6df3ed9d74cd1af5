use Rattle.std.proofs.Common.{◌≡◌, ℕ, None, Some, slice_get, subst, ◌∙◌}
use Rattle.drda_node.specs.Machine.{opened}
use Rattle.drda_node.specs.Register.{machine}
use Rattle.drda_node.proofs.Refusing.{err_so, opened_anyway}
use Rattle.drda_node.proofs.answering.answer_open.Goals as goal

pub returns-in-Ok-clause-breaks_off : goal.returns-in-Ok-clause-breaks_off
returns-in-Ok-clause-breaks_off g c =
    let first = machine c.args.node.now in
    let last = machine c.open_at.new.self in
    let there = c.in-Ok.ensures.place ∙ c.from-place.ensures in
    err_so c.push_record.result
    (opened_anyway first last c.args.number (subst (λ (k : ℕ). slice_get first.row k ≡ Some None) there c.in-Ok.ensures.opened.free) c.in-Ok.ensures.opened.left
    (subst (λ (k : ℕ). last ≡ opened first k) there c.in-Ok.ensures.opened.row))
