use Rattle.unit_records.proofs.Lengths.{good_prepare}
use Rattle.unit_records.proofs.write.write_prepare.Goals as goal

pub returns-in_err-reserve-clause-good : goal.returns-in_err-reserve-clause-good
returns-in_err-reserve-clause-good c = good_prepare c.args.xid.now c.args.changes.now c.args.claims.now c.prepare_length.ensures.named c.prepare_length.ensures.claims c.requires

pub returns-then-is_err-clause-good : goal.returns-then-is_err-clause-good
returns-then-is_err-clause-good c = good_prepare c.args.xid.now c.args.changes.now c.args.claims.now c.prepare_length.ensures.named c.prepare_length.ensures.claims c.requires

pub returns-else-is_err-clause-good : goal.returns-else-is_err-clause-good
returns-else-is_err-clause-good c = good_prepare c.args.xid.now c.args.changes.now c.args.claims.now c.prepare_length.ensures.named c.prepare_length.ensures.claims c.requires
