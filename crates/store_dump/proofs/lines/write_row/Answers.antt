use Rattle.store_dump.proofs.Going.{failed, no_front}
use Rattle.store_dump.proofs.lines.write_row.Goals as goal

pub returns-in_err-put_row_line-clause-line : goal.returns-in_err-put_row_line-clause-line
returns-in_err-put_row_line-clause-line g c = failed _ c.from_residual.result _ _ c.from_residual.ensures.0 (no_front _ _)
