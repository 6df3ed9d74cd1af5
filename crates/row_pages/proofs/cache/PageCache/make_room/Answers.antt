-- What is left are the first of the pages.
use Rattle.std.proofs.Common.{◌-◌, length, sym, subst, ap}
use Rattle.row_pages.specs.Keeping.{BeginWithin}
use Rattle.row_pages.proofs.KeptPages.{fewer_begin}
use Rattle.row_pages.proofs.cache.PageCache.make_room.Goals as goal

pub invariant_of-self : goal.invariant_of-self
invariant_of-self c =
    let pages = c.self.inside.pages.entries in
    subst (BeginWithin c.self.inside.first c.self.inside.last) (sym (ap (λ p. p.entries) c.pop_lru.ensures.entries))
    (fewer_begin (length pages - 1) c.self.inside.first c.self.inside.last pages c.self.invariant)
