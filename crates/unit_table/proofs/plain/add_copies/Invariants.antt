-- The changes so far are copied.
use Rattle.std.proofs.Common.{◌≡◌, ◌++◌, map, take}
use Rattle.tables.specs.ChangeView.{change_of}
use Rattle.unit_table.proofs.plain.add_copies.Given as goal

abbrev pub invariant-loop-i : goal.invariant-loop-i
invariant-loop-i l = map change_of l.copies.items ≡ map change_of l.fn.copies.items ++ map change_of (take l.i l.changes)
