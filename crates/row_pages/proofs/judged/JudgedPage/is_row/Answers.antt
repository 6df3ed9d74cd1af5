-- A page that carries the mark has rows of the schema alone.
use Rattle.row_pages.proofs.Rising.{judged_row}
use Rattle.row_pages.proofs.judged.JudgedPage.is_row.Goals as goal

pub returns-then-is_marked-clause-known : goal.returns-then-is_marked-clause-known
returns-then-is_marked-clause-known c known number at = judged_row c.args.schema.now c.args.self.now.rows number c.args.row.now (c.is_marked.ensures c.if-is_marked.true) at
