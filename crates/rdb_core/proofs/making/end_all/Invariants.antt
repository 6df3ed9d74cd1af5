use Rattle.std.proofs.Common.{◌≡◌, drop}
use Rattle.unit_records.specs.Together.{units_behind}
use Rattle.rdb_core.proofs.making.end_all.Given as goal

abbrev pub invariant-loop-call : goal.invariant-loop-call
invariant-loop-call l = units_behind (drop l.call-index l.calls) l.units ≡ units_behind l.calls l.fn.units
