use Rattle.std.proofs.Common.{ap, sym, ◌∙◌, ◌≡◌, ◌+◌, ◌-◌, ◌≤◌, ◌<◌, ℕ, Some, None, arith, length, get_or}
use Rattle.std.specs.List.{position}
use Rattle.std.proofs.lemmas.List.Quantifiers.{position-Some}
use Rattle.unit_locks.specs.Index.{counted, is_held, use_in}
use Rattle.unit_locks.proofs.Counts.{absent, ended, lowered, same_item}
use Rattle.unit_locks.proofs.holder.lower.Goals as goal

pub returns-then-count-gt1 : goal.returns-then-count-gt1
returns-then-count-gt1 c k =
    let u = use_in c.args.unit c.args.claim.now in
    let hs = c.args.holders.now.items in
    let found : position (is_held u) hs ≡ Some c.in-Some.i = ap (position (is_held u)) (sym c.as_slice.ensures.value) ∙ sym c.in-Some.ensures in
    let h = c.index_mut-holder.result.now in
    let is : h ≡ get_or hs c.in-Some.i h = c.index_mut-holder.ensures.value in
    let inside = (position-Some (is_held u) hs c.in-Some.i h found).0 in
    let same = ap (λ x. x.count) (c.index.ensures ∙ same_item hs c.in-Some.i c.index.result.now h inside ∙ sym is) in
    let more = c.if-count-gt1.true in
    lowered hs c.in-Some.i (c.index.result.now.count - 1) h u k found is (omega (arith, same, more))

pub returns-else-count-gt1 : goal.returns-else-count-gt1
returns-else-count-gt1 c k =
    let u = use_in c.args.unit c.args.claim.now in
    let hs = c.args.holders.now.items in
    let found : position (is_held u) hs ≡ Some c.in-Some.i = ap (position (is_held u)) (sym c.as_slice.ensures.value) ∙ sym c.in-Some.ensures in
    ap (λ l. counted l k) c.remove.ensures.items ∙ ended hs c.in-Some.i c.index.result.now u k found c.index.ensures c.if-count-gt1.false

pub returns-in-None : goal.returns-in-None
returns-in-None c k =
    let u = use_in c.args.unit c.args.claim.now in
    absent c.args.holders.now.items u k (ap (position (is_held u)) (sym c.as_slice.ensures.value) ∙ sym c.in-None.ensures)
