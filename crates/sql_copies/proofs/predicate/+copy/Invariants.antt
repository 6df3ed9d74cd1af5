-- The first parts are copied.
use Rattle.std.proofs.Common.{◌≡◌, take}
use Rattle.sql_copies.proofs.predicate.+copy.Given as goal

abbrev pub invariant-copy_parts-loop-part : goal.invariant-copy_parts-loop-part
invariant-copy_parts-loop-part l = l.copies ≡ take l.part-index l.parts
