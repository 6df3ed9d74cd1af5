-- The types of the terms so far, and of those that are left.
use Rattle.std.proofs.Common.{◌≡◌, ◌++◌, length}
use Rattle.std.specs.List.{flat_map}
use Rattle.sql_semantics.specs.Describe as describe
use Rattle.sql_descriptions.proofs.parameter.add_addends.Given as goal

abbrev pub invariant-addends : goal.invariant-addends
invariant-addends l = l.types.items ++ flat_map (λ a. describe.term_types l.given_as a.term) l.left ≡ l.fn.types.items ++ flat_map (λ a. describe.term_types l.given_as a.term) l.addends

abbrev pub decreases-addends : goal.decreases-addends
decreases-addends l = length l.left
