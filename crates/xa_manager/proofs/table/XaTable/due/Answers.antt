use Rattle.std.proofs.Common.{rules}
use Rattle.xa_manager.proofs.table.XaTable.due.Goals as goal

pub returns-clause-due : goal.returns-clause-due
returns-clause-due c = record { verb = c.args.verb; work = c.args.work; answer = search rules }
