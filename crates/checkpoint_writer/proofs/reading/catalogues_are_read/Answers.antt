use Rattle.checkpoint_writer.proofs.ReadEntries.{catalogue_back}
use Rattle.checkpoint_writer.proofs.reading.catalogues_are_read.Goals as goal

pub returns : goal.returns
returns c = catalogue_back c.one_laying.ensures.laid
