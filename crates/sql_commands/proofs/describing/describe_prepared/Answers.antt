-- Described or not, the statements stay as they are.
use Rattle.sql_commands.specs.Commands.{describing}
use Rattle.sql_commands.proofs.Prepared.{done_both}
use Rattle.sql_commands.proofs.describing.describe_prepared.Goals as goal

pub returns-clause-ok : goal.returns-clause-ok
returns-clause-ok g c =
    let k = c.args.statements.now in
    done_both g.A.Ask.asks (describing c.args.unicode k k c.args.statement.now c.args.side) _ _ _ _ _ c.in_ok-reserve.ensures.list k c.describe_statement.result (c.describe_statement.ensures.done k k)
