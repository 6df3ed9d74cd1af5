use Rattle.std.proofs.Common.{arith, []}
use Rattle.row_pages.proofs.LaidPages.{laid_so, only_laid}
use Rattle.row_pages.proofs.laws.one_laying.Goals as goal

pub returns-clause-laid : goal.returns-clause-laid
returns-clause-laid c rows short = laid_so [] rows (omega arith) short

pub returns-clause-only : goal.returns-clause-only
returns-clause-only c = only_laid
