use Rattle.std.proofs.Common.{ap}
use Rattle.paged_tables.specs.PagedTables.{store_in}
use Rattle.store_dump.specs.Dump.{list_text}
use Rattle.told_stores.proofs.Dumped.{written_of}
use Rattle.told_stores.proofs.dumps.list_core.Goals as goal

pub returns-clause-told : goal.returns-clause-told
returns-clause-told g c honest going =
    written_of _ (list_text c.args.core.state.base.store) c.list_from.result _ _ (ap list_text c.into_tables-tables.ensures.tables) (c.list_from.ensures.told honest (c.into_tables-tables.ensures.stand honest going))
