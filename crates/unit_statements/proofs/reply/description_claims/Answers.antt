use Rattle.std.proofs.Common.{[], ◌∙◌}
use Rattle.std.proofs.lemmas.Result.{IfOk-weaker}
use Rattle.unit_statements.proofs.Questions.{absent_read}
use Rattle.unit_statements.proofs.reply.description_claims.Goals as goal

pub returns-in-None : goal.returns-in-None
returns-in-None c = rw c.in-None.is (IfOk-weaker c.absent_claims.result _ _ (λ claims is. is [] ∙ absent_read c.args.command.now c.requires) c.absent_claims.ensures)
