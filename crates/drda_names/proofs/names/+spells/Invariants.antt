use Rattle.std.proofs.Common.{length}
use Rattle.drda_names.proofs.names.+spells.Given as goal

abbrev pub decreases-spells : goal.decreases-spells
decreases-spells l = length l.bytes.now
