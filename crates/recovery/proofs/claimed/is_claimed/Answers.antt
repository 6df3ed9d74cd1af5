use Rattle.std.proofs.Common.{ap, not}
use Rattle.recovery.proofs.Claiming.{claimed_else, claimed_then}
use Rattle.recovery.proofs.claimed.is_claimed.Goals as goal

pub returns-then-not-creates_any : goal.returns-then-not-creates_any
returns-then-not-creates_any c = claimed_then c.args.changes.now c.args.claims.now c.creates_any.result c.creates_any.ensures (ap not c.if-not-creates_any.true)

pub returns-else-not-creates_any : goal.returns-else-not-creates_any
returns-else-not-creates_any c = claimed_else c.args.changes.now c.args.claims.now c.creates_any.result c.claims_names.result c.creates_any.ensures (ap not c.if-not-creates_any.false) c.claims_names.ensures
