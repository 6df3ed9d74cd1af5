use Rattle.std.proofs.Common.{◌+◌, ◌-◌, ◌/◌, ◌<◌, ℕ, sym, ◌∙◌, ap, arith}
use Rattle.std.specs.Ordering.{nat_cmp}
use Rattle.std.specs.Cmp.Lexicographic.{slice_cmp}
use Rattle.std.proofs.lemmas.List.{get_or_default}
use Rattle.xa_manager.specs.declared.branch.Branch.{Branch}
use Rattle.xa_manager.specs.Place.{no_branch}
use Rattle.xa_manager.proofs.Places.{left_above, left_below, found}
use Rattle.xa_manager.proofs.search.place.Goals as goal

pub loop-low-preserved-in-Less : goal.loop-low-preserved-in-Less
loop-low-preserved-in-Less c =
    let bs = c.args.branches.now in
    let x = c.args.xid.now in
    let low = c.loop-low.low in
    let high = c.loop-low.high in
    let middle : ℕ = low + (high - low) / 2 in
    let inside : low < high = c.loop-low-test.true in
    let below : middle < high = omega arith in
    let read = get_or_default bs middle c.index-branches-middle.result no_branch (omega (arith, c.loop-low.invariant.in_range)) in
    let ordered = ap (λ (b : Branch). slice_cmp nat_cmp b.xid x) (sym read) ∙ (sym c.cmp.ensures ∙ c.in-Less.is) in
    left_above bs c.requires x low high middle c.loop-low.invariant (omega arith) below ordered

pub returns-in-Equal-clause-found : goal.returns-in-Equal-clause-found
returns-in-Equal-clause-found c =
    let bs = c.args.branches.now in
    let x = c.args.xid.now in
    let low = c.loop-low.low in
    let high = c.loop-low.high in
    let middle : ℕ = low + (high - low) / 2 in
    let inside : low < high = c.loop-low-test.true in
    let below : middle < high = omega arith in
    let read = get_or_default bs middle c.index-branches-middle.result no_branch (omega (arith, c.loop-low.invariant.in_range)) in
    let ordered = ap (λ (b : Branch). slice_cmp nat_cmp b.xid x) (sym read) ∙ (sym c.cmp.ensures ∙ c.in-Equal.is) in
    found bs c.requires x low high middle c.loop-low.invariant (omega arith) below ordered

pub loop-low-preserved : goal.loop-low-preserved
loop-low-preserved c =
    let bs = c.args.branches.now in
    let x = c.args.xid.now in
    let low = c.loop-low.low in
    let high = c.loop-low.high in
    let middle : ℕ = low + (high - low) / 2 in
    let inside : low < high = c.loop-low-test.true in
    let below : middle < high = omega arith in
    let read = get_or_default bs middle c.index-branches-middle.result no_branch (omega (arith, c.loop-low.invariant.in_range)) in
    let ordered = ap (λ (b : Branch). slice_cmp nat_cmp b.xid x) (sym read) ∙ (sym c.cmp.ensures ∙ c.in-Greater.is) in
    left_below bs c.requires x low high middle c.loop-low.invariant (omega arith) below ordered
