use Rattle.std.proofs.Common.{ℕ, length, ◌≤◌, subst, sym, ap, ◌∙◌}
use Rattle.paged_checkpoints_tests.proofs.held.Held.open.Goals as goal

pub invariant_of-result : goal.invariant_of-result
invariant_of-result g c =
    let same = c.size.ensures ∙ ap length (sym c.open_checkpoint.ensures.stays.same) in
    c.in_ok-tables.ensures.inside (length (g.D.Disk.life c.open_checkpoint.new.pager).seen) (subst (λ (n : ℕ). c.in_ok-active.active.region.at ≤ n) same c.if-end-size.false)
