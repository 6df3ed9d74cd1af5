-- A table's rows are laid anew.
use Rattle.std.proofs.Common.{rules, ◌≡◌, ◌+◌, ◌*◌, ◌-◌, length, refl, arith}
use Rattle.row_pages.specs.Laying.{laid}
use Rattle.table_map.specs.Table.{rows_of_table, without_keys}
use Rattle.half_store.specs.Writing.{next_of, pages_of}
use Rattle.checkpoint_writer.specs.Adding.{end_of_half}
use Rattle.checkpoint_writer.proofs.Adding.{same_from}
use Rattle.checkpoint_writer.proofs.Told.{handed_on}
use Rattle.store_check.specs.Room.{pages_of_table}
use Rattle.store_check.proofs.Moving.{told_wider}
use Rattle.paged_tables.specs.Stored.{table_in}
use Rattle.key_map.specs.RowForm.{row_form}
use Rattle.paged_checkpoints.proofs.Anew.{apart, count, have, is_under, lays, pages_then, short, stands}
use Rattle.paged_checkpoints.proofs.table_pages.write_table.Goals as goal

pub returns-in_err-noted-clause-full : goal.returns-in_err-noted-clause-full
returns-in_err-noted-clause-full g c e is readable =
    let law = c.rows_have_their_forms.ensures in
    let modelled = g.D.Disk.is_modelled in
    let file = (g.D.Disk.life c.args.disk.now).seen in
    let w = c.args.image.now in
    let good = c.columns-columns.ensures.good in
    told_wider c.in_err-noted.field-0.0 c.merge_into.result c.from_residual.result (end_of_half w) (end_of_half w)
    (next_of w + 8192 * length (laid (without_keys (rows_of_table (row_form c.args.table.schema.now) c.args.table.rows.now readable.stand.pages)))) (next_of w + 8192 * pages_of_table (table_in e.1)) (search rules) (search rules) refl
    (omega (arith, count law modelled file w e c.args.table is good readable))
    (c.merge_into.ensures.full readable.stand.pages readable.modelled_disk (stands law modelled file w e c.args.table is good readable) (apart law modelled file w e c.args.table is good readable))

pub returns-in_err-noted-clause-damaged : goal.returns-in_err-noted-clause-damaged
returns-in_err-noted-clause-damaged g c e is named readable =
    let law = c.rows_have_their_forms.ensures in
    let modelled = g.D.Disk.is_modelled in
    let file = (g.D.Disk.life c.args.disk.now).seen in
    let w = c.args.image.now in
    let good = c.columns-columns.ensures.good in
    handed_on _ _ c.in_err-noted.field-0.0 c.merge_into.result c.from_residual.result (search rules) (search rules)
    (λ long. long (short law modelled file w e c.args.table is good readable named))
    (c.merge_into.ensures.damaged readable.stand.pages readable.modelled_disk (stands law modelled file w e c.args.table is good readable) (apart law modelled file w e c.args.table is good readable))

pub returns-clause-under : goal.returns-clause-under
returns-clause-under g c e is = is_under c.rows_have_their_forms.ensures e c.args.table is c.columns-columns.ensures.good

pub returns-clause-laid : goal.returns-clause-laid
returns-clause-laid g c e is named readable =
    let law = c.rows_have_their_forms.ensures in
    let modelled = g.D.Disk.is_modelled in
    let file = (g.D.Disk.life c.args.disk.now).seen in
    let new = (g.D.Disk.life c.merge_into.new.disk).seen in
    let w = c.args.image.now in
    let after = c.merge_into.new.image in
    let written = c.in_ok-noted.noted.pages in
    let good = c.columns-columns.ensures.good in
    let image =
    c.in_ok-noted.ensures.rows readable.stand.pages readable.modelled_disk (stands law modelled file w e c.args.table is good readable) (apart law modelled file w e c.args.table is good readable)
    (have law modelled file w e c.args.table is good readable) in
    let last = c.in_ok-noted.ensures.last in
    let from = same_from w after c.merge_into.ensures.adds.half c.merge_into.ensures.adds.half_bytes in
    let then : pages_of after ≡ pages_of w + pages_of_table (table_in e.1) = pages_then law modelled file w e c.args.table is good readable new after written named image last from in
    let many : c.pages.result - c.pages-first.result ≡ pages_of_table (table_in e.1) = omega (arith, c.pages.ensures, c.pages-first.ensures, then) in
    lays law modelled file w e c.args.table is good readable new after written named image last from c.first_page.result (c.pages.result - c.pages-first.result) many (search rules)
