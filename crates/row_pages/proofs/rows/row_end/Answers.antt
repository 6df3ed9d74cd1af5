use Rattle.std.proofs.Common.{arith, sym, ap, ◌∙◌}
use Rattle.row_pages.specs.Reading.{row_at}
use Rattle.row_pages.proofs.Placed.{ends_row}
use Rattle.row_pages.proofs.rows.row_end.Goals as goal

pub overflow_add-result-2 : goal.overflow_add-result-2
overflow_add-result-2 c = let ends = ends_row c.args.bytes.now c.in_ok-row.row.now c.in_ok-row.field-0-1.now c.args.at c.requires (ap row_at (sym c.from_place.ensures) ∙ sym c.in_ok-row.ensures) in omega (arith, ends.within)

pub returns : goal.returns
returns c = ends_row c.args.bytes.now c.in_ok-row.row.now c.in_ok-row.field-0-1.now c.args.at c.requires (ap row_at (sym c.from_place.ensures) ∙ sym c.in_ok-row.ensures)
