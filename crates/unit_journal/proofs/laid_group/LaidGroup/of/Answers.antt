use Rattle.std.proofs.Common.{◌∷◌, []}
use Rattle.unit_journal.specs.LaidRecord.{entry_in}
use Rattle.unit_journal.proofs.LaidGroups.{entries_behind_are, is_laid, laid_one}
use Rattle.unit_journal.proofs.laid_group.LaidGroup.of.Goals as goal

pub invariant_of-result : goal.invariant_of-result
invariant_of-result c = is_laid (entry_in c.args.first ∷ []) _ (laid_one (entry_in c.args.first) _ c.into_bytes.ensures.bytes) (c.into_bytes.ensures.short, tt)

pub returns : goal.returns
returns c = entries_behind_are (entry_in c.args.first ∷ []) _ (laid_one (entry_in c.args.first) _ c.into_bytes.ensures.bytes) (c.into_bytes.ensures.short, tt)
