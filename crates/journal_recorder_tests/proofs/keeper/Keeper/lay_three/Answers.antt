use Rattle.journal_recorder_tests.proofs.Together.{has_pages_ahead}
use Rattle.journal_recorder_tests.proofs.keeper.Keeper.lay_three.Goals as goal

pub invariant_of-self : goal.invariant_of-self
invariant_of-self g c = has_pages_ahead g.D.Disk.is_modelled g.D.Disk.life c.pages_are_kept.ensures c.self.inside.recorder c.lay_ahead.new.self c.self.inside.tables.tables c.self.invariant c.lay_ahead.result c.lay_ahead.ensures.ok c.lay_ahead.ensures.err
