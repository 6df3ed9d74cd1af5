use Rattle.tables.proofs.ChangeLaws.{change_back, change_is}
use Rattle.tables.proofs.laws.changes_have_their_bytes.Goals as goal

pub returns : goal.returns
returns c = record { written = change_back; read = change_is }
