use Rattle.std.proofs.Common.{sym, ap, ◌∙◌}
use Rattle.std.specs.Prelude.{nat_eq}
use Rattle.std.specs.Map.{lookup}
use Rattle.row_pages.proofs.KeptPages.{kept_read}
use Rattle.row_pages.proofs.cache.PageCache.kept.Goals as goal

pub returns : goal.returns
returns c file read =
    kept_read c.args.self.now c.args.at c.in-Some.page.now file read
    (ap (lookup (nat_eq c.args.at)) (sym c.self.view_is) ∙ sym c.in-Some.ensures)
