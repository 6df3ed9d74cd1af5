use Rattle.std.proofs.Common.{◌+◌, arith, rules, subst}
use Rattle.table_map.specs.Walk.{GivesRow, PagesLeft, page_rows}
use Rattle.table_map.proofs.Lent.{behind, gives_row}
use Rattle.table_map.proofs.base.RowsLeft.give.Goals as goal

pub returns-then-self-row_count-clause-rows : goal.returns-then-self-row_count-clause-rows
returns-then-self-row_count-clause-rows c =
    let rows = page_rows c.self.inside.page in
    let new : PagesLeft = behind c.self.inside.at c.self.inside.pages rows (c.self.inside.given + 1) in
    subst (λ (p : PagesLeft). GivesRow p.rows new) c.self.view_is
    (gives_row c.self.inside.at c.self.inside.pages rows c.self.inside.given (c.self.inside.given + 1) (omega arith) (search rules))
