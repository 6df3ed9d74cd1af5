use Rattle.std.proofs.Common.{◌≡◌, ◌++◌, length}
use Rattle.sql_text.specs.Spelled.{undoubled}
use Rattle.sql_predicates.proofs.bytes.undoubled.Given as goal

abbrev pub invariant-runs : goal.invariant-runs
invariant-runs l = l.text.items ++ undoubled l.rest ≡ undoubled l.spelled

abbrev pub decreases-runs : goal.decreases-runs
decreases-runs l = length l.rest
