use Rattle.paged_tables.proofs.Pages.{pages_stay_themselves}
use Rattle.paged_tables.proofs.steps.release_one.Goals as goal

pub returns-in_default-clause-pages : goal.returns-in_default-clause-pages
returns-in_default-clause-pages c = pages_stay_themselves c.args.tables.now
