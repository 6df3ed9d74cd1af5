-- The columns that are left grow fewer.
use Rattle.std.proofs.Common.{length}
use Rattle.unit_changes.proofs.same_schema.+have_same_columns.Given as goal

abbrev pub decreases-have_same_columns : goal.decreases-have_same_columns
decreases-have_same_columns l = length l.a.now
