use Rattle.std.proofs.Common.{◌≡◌, ℕ, length, sym, subst, arith}
use Rattle.unit_table.specs.Owner.{plain_owner}
use Rattle.unit_table.specs.Table.{IsGapFor}
use Rattle.unit_table.proofs.Search.{at_front, found_it, gap_at, gap_at_end, next_one}
use Rattle.unit_table.proofs.place.place.Goals as goal

pub loop-at-init : goal.loop-at-init
loop-at-init c = at_front (plain_owner c.args.owner.now) c.args.entries.now

pub loop-at-preserved : goal.loop-at-preserved
loop-at-preserved c = next_one (plain_owner c.args.owner.now) c.args.entries.now c.loop-at.at c.loop-at.invariant c.index-entries-at.result (omega arith) c.index-entries-at.is (sym c.if-is.ensures) (sym c.if-comes_before.ensures)

pub returns-then-is-clause-found : goal.returns-then-is-clause-found
returns-then-is-clause-found c = found_it (plain_owner c.args.owner.now) c.args.entries.now c.loop-at.at c.loop-at.invariant c.index-entries-at.result (omega arith) c.index-entries-at.is (sym c.if-is.ensures)

pub returns-then-comes_before-clause-absent : goal.returns-then-comes_before-clause-absent
returns-then-comes_before-clause-absent c = gap_at (plain_owner c.args.owner.now) c.args.entries.now c.loop-at.at c.loop-at.invariant c.index-entries-at.result (omega arith) c.index-entries-at.is (sym c.if-is.ensures) (sym c.if-comes_before.ensures)

pub returns-clause-absent : goal.returns-clause-absent
returns-clause-absent c =
    let end : c.loop-at.at ≡ length c.args.entries.now = omega arith in
    let o = plain_owner c.args.owner.now in
    subst (λ (j : ℕ). IsGapFor o c.args.entries.now j) end (gap_at_end o c.args.entries.now c.loop-at.at c.loop-at.invariant c.loop-at-test.false)
