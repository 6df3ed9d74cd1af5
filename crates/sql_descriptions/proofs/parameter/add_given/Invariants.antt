-- The types of the values so far, and of those that are left.
use Rattle.std.proofs.Common.{◌≡◌, ◌++◌, length}
use Rattle.sql_semantics.specs.Describe as describe
use Rattle.sql_descriptions.proofs.parameter.add_given.Given as goal

abbrev pub invariant-values : goal.invariant-values
invariant-values l = l.types.items ++ describe.given_types l.types_left l.left ≡ l.fn.types.items ++ describe.given_types l.given_as l.values

abbrev pub decreases-values : goal.decreases-values
decreases-values l = length l.left
