use Rattle.std.proofs.Common.{◌≡◌, take}
use Rattle.unit_journal.specs.Record.{laid, entries_of}
use Rattle.unit_journal.proofs.lay.laid_bytes.Given as goal

abbrev pub invariant-loop-item : goal.invariant-loop-item
invariant-loop-item l = l.bytes.items ≡ laid (entries_of (take l.item-index l.records))
