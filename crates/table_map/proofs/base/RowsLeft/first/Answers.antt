use Rattle.std.proofs.Common.{subst}
use Rattle.table_map.specs.Walk.{IsFirstRow, PagesLeft, page_rows}
use Rattle.table_map.proofs.Lent.{first_row}
use Rattle.table_map.proofs.base.RowsLeft.first.Goals as goal

pub returns : goal.returns
returns c = subst (λ (p : PagesLeft). IsFirstRow p.rows c.row_of.result) c.self.view_is (first_row (page_rows c.self.inside.page) c.self.inside.given c.row_of.result c.row_of.ensures)
