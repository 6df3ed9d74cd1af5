use Rattle.std.proofs.Common.{◌≡◌, length}
use Rattle.sql_text.specs.Checks.{first_empty}
use Rattle.sql_text.proofs.check.first_empty.Given as goal

abbrev pub invariant-loop-columns : goal.invariant-loop-columns
invariant-loop-columns l = record { same : first_empty l.columns ≡ first_empty l.initial.columns }

abbrev pub decreases-loop-columns : goal.decreases-loop-columns
decreases-loop-columns l = length l.columns
