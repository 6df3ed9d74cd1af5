use Rattle.std.proofs.Common.{length}
use Rattle.row_values.proofs.schema.+have_different_names.Given as goal

abbrev pub decreases-have_different_names : goal.decreases-have_different_names
decreases-have_different_names l = length l.columns.now
