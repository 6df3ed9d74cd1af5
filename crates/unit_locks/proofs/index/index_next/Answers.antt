use Rattle.std.proofs.Common.{ap, ◌∙◌, ◌≡◌, ◌+◌, ◌-◌, ℕ, arith}
use Rattle.unit_locks.specs.Index.{held, one_if, same_use, use_in}
use Rattle.unit_locks.proofs.index.index_next.Goals as goal

pub returns-in-Err-put-clause-err : goal.returns-in-Err-put-clause-err
returns-in-Err-put-clause-err c = record {
  kept = c.put.ensures.kept;
  same = λ k. c.uncount.ensures k ∙ ap (λ n. n - one_if (same_use (use_in c.args.place.unit c.args.claim.now) k)) (c.in-Ok.ensures.ok k) ∙ back (held c.args.holders.now.items k) (one_if (same_use (use_in c.args.place.unit c.args.claim.now) k));
}
  where
    back : (n m : ℕ) → (n + m) - m ≡ n
    back n m = omega arith
