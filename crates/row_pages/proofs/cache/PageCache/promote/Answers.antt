use Rattle.std.proofs.Common.{sym, subst, ap, ◌∙◌}
use Rattle.std.specs.Prelude.{IsSome, nat_eq}
use Rattle.std.specs.Map.{lookup}
use Rattle.row_pages.specs.Keeping.{AreRead, BeginWithin, Kept}
use Rattle.row_pages.proofs.KeptPages.{promoted_begin, promoted_read, promoted_there}
use Rattle.row_pages.proofs.cache.PageCache.promote.Goals as goal

pub returns-clause-kept : goal.returns-clause-kept
returns-clause-kept c file read =
    subst (λ (kept : Kept). AreRead kept file) (sym (ap (λ p. p.entries) c.promote.ensures.entries))
    (promoted_read c.args.at c.self.inside.pages.entries file (subst (λ (kept : Kept). AreRead kept file) (sym c.self.view_is) read))

pub returns-clause-there : goal.returns-clause-there
returns-clause-there c there =
    subst (λ (kept : Kept). IsSome (lookup (nat_eq c.args.at) kept)) (sym (ap (λ p. p.entries) c.promote.ensures.entries))
    (promoted_there c.args.at c.self.inside.pages.entries (sym c.promote.ensures.value ∙ there))

pub invariant_of-self : goal.invariant_of-self
invariant_of-self c =
    subst (BeginWithin c.self.inside.first c.self.inside.last) (sym (ap (λ p. p.entries) c.promote.ensures.entries))
    (promoted_begin c.args.at c.self.inside.first c.self.inside.last c.self.inside.pages.entries c.self.invariant)
