use Rattle.tables.proofs.Changes.{create_creates, put_puts, remove_removes}
use Rattle.tables.proofs.Keeping.{apply_keeps}
use Rattle.tables.proofs.laws.changes_are_local.Goals as goal

pub returns : goal.returns
returns c = record { created = create_creates; put = put_puts; removed = remove_removes; kept = apply_keeps }
