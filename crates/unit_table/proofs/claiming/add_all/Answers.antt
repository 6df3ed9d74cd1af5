use Rattle.std.proofs.Common.{◌∙◌}
use Rattle.unit_locks.specs.Claims.{claims_of}
use Rattle.unit_table.proofs.Adding.{front_stays, one_added}
use Rattle.unit_table.proofs.claiming.add_all.Goals as goal

pub loop-claim-preserved : goal.loop-claim-preserved
loop-claim-preserved c =
    one_added c.args.unit.0 (claims_of c.args.claims.now) (claims_of c.loop-claim.claims) (claims_of c.add.new.self) c.loop-claim.yielded c.in-Some.claim c.loop-claim.invariant c.in_ok-add.ensures.ok c.in_ok-add.ensures.others

pub returns-in_err-add-clause-front : goal.returns-in_err-add-clause-front
returns-in_err-add-clause-front c =
    front_stays (claims_of c.args.claims.now c.args.unit.0) c.loop-claim.yielded (claims_of c.add.new.self c.args.unit.0) (c.in_err-add.ensures.err ∙ c.loop-claim.invariant.added)

pub returns-clause-front : goal.returns-clause-front
returns-clause-front c =
    front_stays (claims_of c.args.claims.now c.args.unit.0) c.loop-claim.yielded (claims_of c.loop-claim.claims c.args.unit.0) c.loop-claim.invariant.added
