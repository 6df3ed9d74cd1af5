use Rattle.std.proofs.Common.{sym, subst}
use Rattle.paged_tables.specs.TablesByName.{LieInside, Tables}
use Rattle.recovery_tests.proofs.journals.checkpoint.Goals as goal

pub returns-in-Ok : goal.returns-in-Ok
returns-in-Ok c =
    let none : LieInside 0 c.new.result.tables = subst (λ (ts : Tables). LieInside 0 ts) (sym c.new.ensures.tables) tt in
    subst (λ (ts : Tables). LieInside 0 ts) (sym c.into_parts.ensures.pages) (c.in-Ok.ensures.pages.inside 0 none)
