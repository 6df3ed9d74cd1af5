-- A table's pages are counted as they will be laid, and so is its row of the catalogue.
use Rattle.std.proofs.Common.{rules, sym, arith}
use Rattle.table_map.proofs.Damaged.{handed_on}
use Rattle.store_check.specs.Room.{entry_of_table}
use Rattle.paged_checkpoints.specs.Laying.{created_entry}
use Rattle.paged_checkpoints.proofs.Standing.{count, short, stands}
use Rattle.paged_checkpoints.proofs.counting.count_table.Goals as goal

pub returns-in_err-count-clause-damaged : goal.returns-in_err-count-clause-damaged
returns-in_err-count-clause-damaged g c e is named honest stand =
    let law = c.rows_have_their_forms.ensures in
    let file = (g.D.Disk.life c.args.disk.now).seen in
    let good = c.columns-columns.ensures.good in
    handed_on _ _ c.in_err-count.field-0.0 c.page_count.result c.from_residual.result (search rules) (search rules)
    (λ long. long (short law file e c.args.table is good stand named))
    (c.page_count.ensures.damaged stand.pages honest (stands law file e c.args.table is good stand))

pub returns-in-Ok-clause-tables : goal.returns-in-Ok-clause-tables
returns-in-Ok-clause-tables g c e is honest stand =
    let law = c.rows_have_their_forms.ensures in
    let file = (g.D.Disk.life c.args.disk.now).seen in
    let good = c.columns-columns.ensures.good in
    let here = c.in_ok-count.ensures.count stand.pages honest (stands law file e c.args.table is good stand) in
    omega (arith, c.saturating_add-pages.ensures, here, count law file e c.args.table is good stand)

pub returns-in-Ok-clause-catalogue : goal.returns-in-Ok-clause-catalogue
returns-in-Ok-clause-catalogue g c e next rows is = c.in-Ok.ensures (entry_of_table next (created_entry e)) rows (sym is.name) (sym is.schema)
