-- What a table takes at most is counted, and its row of the catalogue as it will be laid.
use Rattle.std.proofs.Common.{sym, arith}
use Rattle.key_map.specs.RowForm.{row_form}
use Rattle.store_check.specs.Room.{entry_of_table}
use Rattle.paged_checkpoints.specs.Laying.{created_entry}
use Rattle.paged_checkpoints.proofs.Standing.{count, stands}
use Rattle.paged_checkpoints.proofs.counting.count_most.Goals as goal

pub returns-clause-tables : goal.returns-clause-tables
returns-clause-tables c e file is stand =
    let law = c.rows_have_their_forms.ensures in
    let good = c.columns-columns.ensures.good in
    let here = c.most_pages.ensures (row_form c.args.table.schema.now) stand.pages file (stands law file e c.args.table is good stand) in
    omega (arith, c.saturating_add-pages.ensures, here, count law file e c.args.table is good stand)

pub returns-clause-catalogue : goal.returns-clause-catalogue
returns-clause-catalogue c e next rows is = c.in_ok-count_entry.ensures (entry_of_table next (created_entry e)) rows (sym is.name) (sym is.schema)
