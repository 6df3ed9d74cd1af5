use Rattle.std.proofs.Common.{◌≡◌, ◌-◌, ◌^◌, min, length, take}
use Rattle.unit_journal.specs.Record.{laid, entries_of}
use Rattle.unit_journal.proofs.lay.laid_len.Given as goal

abbrev pub invariant-loop-item : goal.invariant-loop-item
invariant-loop-item l = l.sum ≡ min (length (laid (entries_of (take l.item-index l.records)))) (2 ^ 64 - 1)
