use Rattle.std.proofs.Common.{◌∙◌}
use Rattle.std.proofs.lemmas.Result.{IfOk-weaker}
use Rattle.half_store.specs.declared.header.Layout.TheVariants.{Two}
use Rattle.journal_recorder.proofs.checkpointing.heuristic_record.Goals as goal

pub returns-in-Ok-clause-record : goal.returns-in-Ok-clause-record
returns-in-Ok-clause-record c = IfOk-weaker c.record_of.result _ _ (λ r is. is ∙ (c.in-Ok.ensures Two 0).entry) c.record_of.ensures.record

pub returns-in-Ok-clause-good : goal.returns-in-Ok-clause-good
returns-in-Ok-clause-good c = IfOk-weaker c.record_of.result _ _ (λ r is. (c.in-Ok.ensures Two 0).good) c.record_of.ensures.record
