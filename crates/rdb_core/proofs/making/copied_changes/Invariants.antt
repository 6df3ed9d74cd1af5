-- What is copied and what is left are all.
use Rattle.std.proofs.Common.{◌≡◌, ◌++◌, drop, map}
use Rattle.tables.specs.ChangeView.{change_of}
use Rattle.unit_records.specs.Together.{all_changes}
use Rattle.rdb_core.proofs.making.copied_changes.Given as goal

abbrev pub invariant-loop-call : goal.invariant-loop-call
invariant-loop-call l = map change_of l.changes.items ++ all_changes l.units (drop l.call-index l.calls) ≡ all_changes l.units l.calls
