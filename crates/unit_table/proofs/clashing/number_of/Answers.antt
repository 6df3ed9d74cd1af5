use Rattle.std.proofs.Common.{arith}
use Rattle.unit_table.specs.Owner.{plain_owner}
use Rattle.unit_table.proofs.Rows.{at_inside}
use Rattle.unit_table.proofs.Others.{number_at, number_in_gap}
use Rattle.unit_table.proofs.clashing.number_of.Goals as goal

pub bounds-entries-at : goal.bounds-entries-at
bounds-entries-at c = at_inside c.args.claims.now (plain_owner c.args.owner.now) c.args.entries.now c.in-Ok.at c.in-Ok.ensures.found

pub bounds-entries-at-in-Ok : goal.bounds-entries-at-in-Ok
bounds-entries-at-in-Ok c = at_inside c.args.claims.now (plain_owner c.args.owner.now) c.args.entries.now c.in-Ok.at c.in-Ok.ensures.found

pub offset_bounds-entries-at : goal.offset_bounds-entries-at
offset_bounds-entries-at c =
    let below = at_inside c.args.claims.now (plain_owner c.args.owner.now) c.args.entries.now c.in-Ok.at c.in-Ok.ensures.found in
    omega (arith, below)

pub returns-in-Ok : goal.returns-in-Ok
returns-in-Ok c =
    number_at c.args.claims.now (plain_owner c.args.owner.now) c.args.entries.now c.in-Ok.at c.index-entries-at.result c.requires.listed c.requires.numbered c.in-Ok.ensures.found

pub returns-in-Err : goal.returns-in-Err
returns-in-Err c = number_in_gap c.args.claims.now (plain_owner c.args.owner.now) 65535 c.args.entries.now c.in-Err.field-0 c.requires.listed c.requires.nobody c.in-Err.ensures.absent
