use Rattle.rdb_core.proofs.engine.Core.request.Goals as goal

pub returns-in-Recover-clause-step : goal.returns-in-Recover-clause-step
returns-in-Recover-clause-step g c = rw c.in-Recover.is (c.recover.ensures.step c.args.conversation)
