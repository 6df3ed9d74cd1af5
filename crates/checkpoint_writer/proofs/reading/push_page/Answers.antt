use Rattle.checkpoint_writer.proofs.ReadEntries.{no_entries}
use Rattle.checkpoint_writer.proofs.reading.push_page.Goals as goal
use Rattle.std.proofs.Common.{refl}

pub returns-in-Err-Damaged-clause-told : goal.returns-in-Err-Damaged-clause-told
returns-in-Err-Damaged-clause-told c bytes is = (refl, no_entries c.one_page.ensures c.args.page.now bytes is _ (rw c.in-Err-Damaged.field-0-is at c.in-Err-Damaged.ensures))
