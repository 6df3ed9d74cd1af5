use Rattle.store_check.proofs.Halves.{one_bad_half}
use Rattle.store_check.proofs.laws.one_first_bad_of_half.Goals as goal

pub returns : goal.returns
returns c key_of file half here there a b = one_bad_half c.one_page.ensures key_of file half here there a b
