-- The first names are copied.
use Rattle.std.proofs.Common.{◌≡◌, take}
use Rattle.sql_copies.proofs.columns.copy_names.Given as goal

abbrev pub invariant-loop-name : goal.invariant-loop-name
invariant-loop-name l = l.copies ≡ take l.name-index l.names
