-- A claim that is counted is good, since its bytes are at hand.
use Rattle.std.proofs.Common.{arith, sym, subst, List}
use Rattle.std.specs.List.{AllByRecursion}
use Rattle.std.proofs.lemmas.Grind.{common_steps}
use Rattle.unit_locks.specs.Claim.{Claim, IsClaim, claim_bytes}
use Rattle.unit_records.proofs.Lengths.{all_of_none, first_left, none_left}
use Rattle.unit_records.proofs.length.claims_length.Goals as goal

pub returns : goal.returns
returns c =
    let few = c.in_default.len_below in
    let none = none_left claim_bytes c.loop-left.left.now few in
    record { length = omega (arith, none, c.loop-left.invariant.sum, c.loop-left.invariant.small); good = c.loop-left.invariant.good (all_of_none IsClaim c.loop-left.left.now few) }

pub loop-left-preserved : goal.loop-left-preserved
loop-left-preserved c = record {
  small = c.saturating_add-sum.type_inv;
  sum = grind (arith, common_steps);
  good = λ rest. c.loop-left.invariant.good (subst (λ (l : List Claim). AllByRecursion IsClaim l) (sym (first_left c.loop-left.left.now c.claim-item.result c.in-len1-up.len_at_least c.claim-item.is)) (c.to_bytes.ensures.whole, rest));
}
