-- The first definitions are copied.
use Rattle.std.proofs.Common.{◌≡◌, take}
use Rattle.sql_copies.proofs.columns.copy_definitions.Given as goal

abbrev pub invariant-loop-definition : goal.invariant-loop-definition
invariant-loop-definition l = l.copies ≡ take l.definition-index l.definitions
