-- What is said and what is left are all.
use Rattle.std.proofs.Common.{◌≡◌, ◌++◌, drop, map}
use Rattle.unit_records.specs.Together.{records_of}
use Rattle.unit_records.specs.RecordContents.{said_by}
use Rattle.rdb_core.proofs.making.sayings_of.Given as goal

abbrev pub invariant-loop-call : goal.invariant-loop-call
invariant-loop-call l = map said_by l.sayings.items ++ records_of l.units (drop l.call-index l.calls) ≡ records_of l.units l.calls
