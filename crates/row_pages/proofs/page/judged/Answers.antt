use Rattle.row_pages.proofs.PageBytes.{judges}
use Rattle.row_pages.proofs.page.judged.Goals as goal

pub returns : goal.returns
returns c = judges c.args.bytes.now c.read_head.result (λ i. (c.type_inv.bytes i).fits) c.read_head.ensures.page c.read_head.ensures.holds
