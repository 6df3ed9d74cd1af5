use Rattle.unit_records.proofs.Lengths.{few_code_changes, good_changes}
use Rattle.unit_records.proofs.write.write_commit.Goals as goal

pub returns-in_err-reserve-clause-good : goal.returns-in_err-reserve-clause-good
returns-in_err-reserve-clause-good c = good_changes c.args.changes.now c.requires

pub put_changes-written-requires : goal.put_changes-written-requires
put_changes-written-requires c = few_code_changes c.args.changes.now (good_changes c.args.changes.now c.requires).0

pub returns-then-is_err-clause-good : goal.returns-then-is_err-clause-good
returns-then-is_err-clause-good c = good_changes c.args.changes.now c.requires

pub returns-else-is_err-clause-good : goal.returns-else-is_err-clause-good
returns-else-is_err-clause-good c = good_changes c.args.changes.now c.requires
