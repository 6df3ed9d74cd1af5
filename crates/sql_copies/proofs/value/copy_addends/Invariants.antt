-- The first addends are copied.
use Rattle.std.proofs.Common.{◌≡◌, take}
use Rattle.sql_copies.proofs.value.copy_addends.Given as goal

abbrev pub invariant-loop-addend : goal.invariant-loop-addend
invariant-loop-addend l = l.copies ≡ take l.addend-index l.addends
