use Rattle.std.proofs.Common.{◌++◌}
use Rattle.table_map.proofs.noted.NotedRows.note_page.Given as goal

abbrev pub ghost-set : goal.ghost-set
ghost-set a = a.self.now.value ++ a.from.now.now.rows
