-- The record that is asked for.
use Rattle.std.specs.Prelude.{map}
use Rattle.tables.specs.ChangeView.{change_of}
use Rattle.unit_records.specs.Records.{UnitRecord, committed, decided, forgotten, heuristic, prepared}
use Rattle.unit_records.specs.declared.record_contents.RecordContents.{RecordContents}
use Rattle.unit_records.specs.declared.record_contents.RecordContents.TheVariants.{Commit, Decide, Forget, Heuristic, Prepare}

abbrev pub said_by : RecordContents → UnitRecord
said_by (Commit changes) = committed (map change_of changes.now)
said_by (Prepare xid changes claims) = prepared xid.now (map change_of changes.now) claims.now
said_by (Decide xid decision) = decided xid.now decision
said_by (Heuristic xid decision) = heuristic xid.now decision
said_by (Forget xid) = forgotten xid.now
