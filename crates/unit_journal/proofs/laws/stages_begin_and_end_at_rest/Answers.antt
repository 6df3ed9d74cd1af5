use Rattle.unit_journal.proofs.Staging.{begins_at_rest, ends_at_rest}
use Rattle.unit_journal.proofs.laws.stages_begin_and_end_at_rest.Goals as goal

pub returns : goal.returns
returns g c disk s rest es = record {
  begins = begins_at_rest g.D.Disk.is_modelled (g.D.Disk.life disk) s rest es;
  ends = ends_at_rest g.D.Disk.is_modelled (g.D.Disk.life disk) s rest es;
}
