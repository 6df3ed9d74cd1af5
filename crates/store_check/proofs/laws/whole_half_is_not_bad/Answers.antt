use Rattle.store_check.proofs.Halves.{half_not_bad}
use Rattle.store_check.proofs.laws.whole_half_is_not_bad.Goals as goal

pub returns : goal.returns
returns c key_of file half here tables whole bad = half_not_bad c.one_page.ensures key_of file half here tables whole bad
