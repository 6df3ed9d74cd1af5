use Rattle.tables.specs.Tables.{put_row, remove_row}
use Rattle.tables.proofs.Changes.{table_after}
use Rattle.tables.proofs.Found.{names_change, table_created}
use Rattle.tables.proofs.laws.changes_make_tables.Goals as goal

pub returns : goal.returns
returns c = record {
  created = table_created;
  put = λ name row s q. table_after (put_row row) q name s;
  removed = λ name key s q. table_after (remove_row key) q name s;
  names = names_change;
}
