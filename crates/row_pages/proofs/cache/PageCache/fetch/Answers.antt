use Rattle.std.proofs.Common.{List, ℕ, sym, subst}
use Rattle.row_pages.specs.Keeping.{AreRead}
use Rattle.row_pages.proofs.cache.PageCache.fetch.Goals as goal

pub returns-then-promote-clause-kept : goal.returns-then-promote-clause-kept
returns-then-promote-clause-kept g c honest read = c.promote.ensures.kept _ read

pub returns-in_err-page-clause-kept : goal.returns-in_err-page-clause-kept
returns-in_err-page-clause-kept g c honest read = subst (λ (file : List ℕ). AreRead c.take_memory.new.self file) (sym c.read.ensures.stays.same) (c.take_memory.ensures.kept _ (c.promote.ensures.kept _ read))

pub returns-clause-kept : goal.returns-clause-kept
returns-clause-kept g c honest read = subst (λ (file : List ℕ). AreRead c.keep.new.self file) (sym c.read.ensures.stays.same) (c.keep.ensures.kept _ (c.take_memory.ensures.kept _ (c.promote.ensures.kept _ read)) (c.in_ok-page.ensures.page honest))
