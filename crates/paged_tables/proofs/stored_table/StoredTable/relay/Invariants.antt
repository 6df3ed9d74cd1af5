-- The pages have all rows now.
use Rattle.key_map.specs.Merging.{merged}
use Rattle.key_map.specs.Overlay.{changes_of}
use Rattle.key_map.specs.RowForm.{row_form}
use Rattle.table_map.specs.Keyed.{keyed_rows}
use Rattle.table_map.specs.Table.{without_keys}
use Rattle.paged_tables.proofs.stored_table.StoredTable.relay.Given as goal

abbrev pub ghost-set : goal.ghost-set
ghost-set a = without_keys (merged (keyed_rows (row_form a.from.now.0.now) a.self.now.value) (changes_of a.from.now.1.now.overlay))
