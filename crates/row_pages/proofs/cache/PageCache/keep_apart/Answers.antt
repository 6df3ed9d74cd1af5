use Rattle.std.proofs.Common.{sym, subst, rules}
use Rattle.row_pages.specs.Keeping.{AreRead, Kept}
use Rattle.row_pages.proofs.KeptPages.{apart_read}
use Rattle.row_pages.proofs.cache.PageCache.keep_apart.Goals as goal

pub returns-else-not-lies_apart-clause-read : goal.returns-else-not-lies_apart-clause-read
returns-else-not-lies_apart-clause-read c old new torn read =
    let apart = c.lies_apart.ensures (search rules) in
    subst (λ (kept : Kept). AreRead kept new) c.self.view_is
    (apart_read c.self.inside.first c.self.inside.last c.args.at c.args.len c.self.inside.pages.entries old new c.self.invariant apart torn (subst (λ (kept : Kept). AreRead kept old) (sym c.self.view_is) read))
