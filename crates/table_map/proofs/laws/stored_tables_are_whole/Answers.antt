use Rattle.table_map.proofs.Damaged.{stored_has_page, stored_is_whole}
use Rattle.table_map.proofs.laws.stored_tables_are_whole.Goals as goal

pub returns-clause-pages : goal.returns-clause-pages
returns-clause-pages c = stored_is_whole

pub returns-clause-key : goal.returns-clause-key
returns-clause-key c = stored_has_page
