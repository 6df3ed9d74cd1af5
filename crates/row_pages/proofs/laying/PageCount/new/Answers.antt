use Rattle.std.proofs.Common.{◌≡◌, [], ◌+◌, length, ap, arith}
use Rattle.row_pages.specs.Laying.{count_behind, counted, laid}
use Rattle.row_pages.proofs.LaidPages.{count_is}
use Rattle.row_pages.proofs.laying.PageCount.new.Goals as goal

pub returns : goal.returns
returns c rows = let same : 0 + count_behind 0 rows ≡ length (laid rows) = omega (arith, count_is [] rows) in ap counted same
