use Rattle.unit_table.specs.Owner.{plain_owner}
use Rattle.unit_table.proofs.Others.{clashes_with_none, clashes_with_one}
use Rattle.unit_table.proofs.clashing.clashes_with_others.Goals as goal

pub returns-in-Some : goal.returns-in-Some
returns-in-Some c = clashes_with_one c.args.claims.now (plain_owner c.args.owner.now) c.args.number c.args.claim.now c.args.entries.now c.in-Some.field-0.0 c.requires.kept c.requires.number c.in-Some.ensures

pub returns-in-None : goal.returns-in-None
returns-in-None c = clashes_with_none c.args.claims.now (plain_owner c.args.owner.now) c.args.number c.args.claim.now c.args.entries.now c.requires.number c.in-None.ensures
