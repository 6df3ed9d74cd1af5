use Rattle.store_check.proofs.Halves.{one_half}
use Rattle.store_check.proofs.laws.one_whole_half.Goals as goal

pub returns : goal.returns
returns c key_of file half tables others a b = one_half c.one_page.ensures key_of file half tables others a b
