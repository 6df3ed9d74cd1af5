use Rattle.std.proofs.Common.{refl, ap, ◌∙◌}
use Rattle.drda_node.specs.Register.{core_in, machine}
use Rattle.store_service.proofs.running.run_node.Goals as goal

pub returns-clause-runs : goal.returns-clause-runs
returns-clause-runs g c = (
  c.run-end.result,
  refl,
  record {
    new = core_in c.run-end.new.node;
    disk_is = c.into_disk.ensures ∙ ap (λ core. core.disk) c.into_core.ensures;
    journaled = c.run-end.ensures.journaled;
    last = machine c.run-end.new.node;
    core_is = refl;
    history = c.run-end.ensures.history;
    runs = c.run-end.ensures.runs;
    stations = c.run-end.ensures.stations;
  },
)
