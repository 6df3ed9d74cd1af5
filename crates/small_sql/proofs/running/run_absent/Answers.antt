use Rattle.std.proofs.lemmas.Result.{IfOk-weaker}
use Rattle.small_sql.specs.Answer.{answer_of}
use Rattle.small_sql.proofs.Covered.{created_is}
use Rattle.small_sql.proofs.running.run_absent.Goals as goal

pub returns-in-Create-clause-answer : goal.returns-in-Create-clause-answer
returns-in-Create-clause-answer g c =
    IfOk-weaker c.create.result _ _
    (λ answer is told there named params. created_is params c.args.left (g.V.TableView.store c.args.view.now) c.args.table.now c.args.command.now c.in-Create.table c.in-Create.columns c.in-Create.key c.in-Create.is
    named there c.as_slice.result.now c.as_slice.ensures c.as_slice-in-Create.result.now c.as_slice-in-Create.ensures (answer_of answer) (is told))
    c.create.ensures.answer
