use Rattle.std.proofs.Common.{◌∙◌, ap}
use Rattle.store_dump.specs.Dump.{dump_text}
use Rattle.store_dump.proofs.Going.{failed, no_front}
use Rattle.told_stores.specs.Doubts.{listed_in}
use Rattle.told_stores.specs.Dumps.{comment_text}
use Rattle.told_stores.proofs.Dumped.{behind_comment, in_comment, written_of}
use Rattle.told_stores.proofs.dumps.dump_core.Goals as goal

pub returns-in_err-comment-clause-told : goal.returns-in_err-comment-clause-told
returns-in_err-comment-clause-told g c honest going = failed _ c.from_residual.result _ _ c.from_residual.ensures.0 (no_front _ _)

pub returns-in-Ok-clause-told : goal.returns-in-Ok-clause-told
returns-in-Ok-clause-told g c honest going =
    behind_comment (comment_text (listed_in c.args.core.state.branches)) (dump_text c.args.core.state.base.store) c.as_bytes.result.now c.dump_from.result _ _ _ (c.as_bytes.ensures.value ∙ c.in_ok-comment.ensures) c.in-Ok.ensures.ok
    (written_of _ (dump_text c.args.core.state.base.store) c.dump_from.result _ _ (ap dump_text c.into_tables-tables.ensures.tables) (c.dump_from.ensures.told honest (c.into_tables-tables.ensures.stand honest going)))

pub returns-clause-told : goal.returns-clause-told
returns-clause-told g c honest going =
    in_comment (comment_text (listed_in c.args.core.state.branches)) (dump_text c.args.core.state.base.store) c.as_bytes.result.now _ _ (c.as_bytes.ensures.value ∙ c.in_ok-comment.ensures) c.in-Err.ensures.err
