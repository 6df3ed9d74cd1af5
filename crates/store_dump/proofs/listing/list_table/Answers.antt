use Rattle.store_dump.proofs.Going.{failed, no_front}
use Rattle.store_dump.proofs.listing.list_table.Goals as goal

pub returns-in_err-rows-clause-told : goal.returns-in_err-rows-clause-told
returns-in_err-rows-clause-told g c e lent honest on = failed _ c.from_residual.result _ _ c.from_residual.ensures.0 (no_front _ _)

pub returns-in_err-pages-clause-told : goal.returns-in_err-pages-clause-told
returns-in_err-pages-clause-told g c e lent honest on = failed _ c.from_residual-in_err-pages.result _ _ c.from_residual-in_err-pages.ensures.0 (no_front _ _)

pub returns-in_err-put_shown-clause-told : goal.returns-in_err-put_shown-clause-told
returns-in_err-put_shown-clause-told g c e lent honest on = failed _ c.from_residual-in_err-put_shown.result _ _ c.from_residual-in_err-put_shown.ensures.0 (no_front _ _)
