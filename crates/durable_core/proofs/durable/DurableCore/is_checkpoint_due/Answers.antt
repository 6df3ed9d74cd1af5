use Rattle.durable_core.proofs.durable.DurableCore.is_checkpoint_due.Goals as goal

pub returns-clause-due : goal.returns-clause-due
returns-clause-due g c modelled going = (c.gauge.result, c.gauge.ensures.gauge modelled going, c.is_due.ensures)
