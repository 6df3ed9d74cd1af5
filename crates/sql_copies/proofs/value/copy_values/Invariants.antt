-- The first values are copied.
use Rattle.std.proofs.Common.{◌≡◌, take}
use Rattle.sql_copies.proofs.value.copy_values.Given as goal

abbrev pub invariant-loop-value : goal.invariant-loop-value
invariant-loop-value l = l.copies ≡ take l.value-index l.values
