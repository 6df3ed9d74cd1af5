use Rattle.store_check.proofs.Listed.{listed_not_bad}
use Rattle.store_check.proofs.laws.listed_is_not_bad.Goals as goal

pub returns : goal.returns
returns c file at count last here pages is bad = listed_not_bad c.one_page.ensures file at count last here pages is bad
