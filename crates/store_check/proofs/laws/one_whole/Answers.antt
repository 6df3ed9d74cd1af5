use Rattle.store_check.proofs.Whole.{one_list}
use Rattle.store_check.proofs.laws.one_whole.Goals as goal

pub returns : goal.returns
returns c schema key_of file at count pages others a b = one_list schema key_of file at c.one_page.ensures count pages others a b
