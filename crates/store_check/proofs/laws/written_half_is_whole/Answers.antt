use Rattle.store_check.proofs.Written.{half_written}
use Rattle.store_check.proofs.laws.written_half_is_whole.Goals as goal

pub returns : goal.returns
returns c key_of file half tables is = half_written c.one_page.ensures c.one_laying.ensures.laid c.catalogues_are_read.ensures key_of file half tables is
