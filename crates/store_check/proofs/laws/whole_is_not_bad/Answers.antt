use Rattle.store_check.proofs.Whole.{never_bad}
use Rattle.store_check.proofs.laws.whole_is_not_bad.Goals as goal

pub returns : goal.returns
returns c schema key_of file at count here pages whole bad = never_bad schema key_of file at c.one_page.ensures count here pages whole bad
