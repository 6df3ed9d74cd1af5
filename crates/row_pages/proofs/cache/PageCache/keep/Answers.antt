use Rattle.std.proofs.Common.{sym, subst, ap}
use Rattle.std.specs.Prelude.{IsSome, nat_eq}
use Rattle.std.specs.Map.{lookup}
use Rattle.drda_words.specs.Place.{part}
use Rattle.row_pages.specs.Page.{IsPage, Page}
use Rattle.row_pages.specs.Keeping.{AreRead, BeginWithin, Kept}
use Rattle.row_pages.proofs.KeptPages.{begin_wider, put_begins, put_read, put_there}
use Rattle.row_pages.proofs.cache.PageCache.keep.Goals as goal

pub returns-in-Ok-clause-kept : goal.returns-in-Ok-clause-kept
returns-in-Ok-clause-kept c file read is =
    subst (λ (kept : Kept). AreRead kept file) (sym (ap (λ p. p.entries) c.in-Ok.ensures.entries))
    (put_read c.self.inside.pages c.args.at c.new.result file (subst (λ (kept : Kept). AreRead kept file) (sym c.self.view_is) read)
    (subst (λ (p : Page). IsPage p (part file c.args.at 8192)) (sym c.new.ensures) is))

pub returns-in-Ok-clause-there : goal.returns-in-Ok-clause-there
returns-in-Ok-clause-there c =
    subst (λ (kept : Kept). IsSome (lookup (nat_eq c.args.at) kept)) (sym (ap (λ p. p.entries) c.in-Ok.ensures.entries))
    (put_there c.self.inside.pages c.args.at c.new.result)

pub invariant_of-self : goal.invariant_of-self
invariant_of-self c =
    let first = c.earlier_of-self-inside in
    let last = c.later_of-self-inside in
    subst (BeginWithin first.result last.result) (sym (ap (λ p. p.entries) c.in-Ok.ensures.entries))
    (put_begins c.self.inside.pages c.args.at c.new.result c.self.inside.first c.self.inside.last first.result last.result c.self.invariant first.ensures.first first.ensures.second last.ensures.first last.ensures.second)

pub invariant_of-self-2 : goal.invariant_of-self-2
invariant_of-self-2 c =
    let first = c.earlier_of-self-inside in
    let last = c.later_of-self-inside in
    subst (BeginWithin first.result last.result) (sym (ap (λ p. p.entries) c.in-Err.ensures.err))
    (begin_wider c.self.inside.first c.self.inside.last first.result last.result c.self.inside.pages.entries c.self.invariant first.ensures.first last.ensures.first)
