use Rattle.store_check.proofs.Written.{catalogue_listed}
use Rattle.store_check.proofs.laws.written_is_listed.Goals as goal

pub returns : goal.returns
returns c file at last entries good short stand listed = catalogue_listed c.one_page.ensures c.one_laying.ensures.laid c.catalogues_are_read.ensures file at last entries good short stand listed
