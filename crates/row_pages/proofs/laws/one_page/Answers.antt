use Rattle.row_pages.proofs.PageBytes as pages
use Rattle.row_pages.proofs.laws.one_page.Goals as goal

pub returns : goal.returns
returns c = pages.one_page
