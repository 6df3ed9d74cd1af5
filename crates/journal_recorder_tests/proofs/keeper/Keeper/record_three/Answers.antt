use Rattle.journal_recorder_tests.proofs.Together.{has_pages}
use Rattle.journal_recorder_tests.proofs.keeper.Keeper.record_three.Goals as goal

pub invariant_of-self : goal.invariant_of-self
invariant_of-self g c = has_pages g.D.Disk.is_modelled g.D.Disk.life c.pages_are_kept.ensures c.self.inside.recorder c.record_all.new.self c.self.inside.tables.tables _ c.self.invariant c.record_all.result c.record_all.ensures.ok c.record_all.ensures.err
