use Rattle.store_check.proofs.Whole.{one_bad}
use Rattle.store_check.proofs.laws.one_first_bad.Goals as goal

pub returns : goal.returns
returns c schema key_of file at count here there a b = one_bad schema key_of file at c.one_page.ensures count here there a b
