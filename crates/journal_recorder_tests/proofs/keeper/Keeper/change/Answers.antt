-- Changes in memory leave the pages alone.
use Rattle.journal_recorder_tests.proofs.keeper.Keeper.change.Goals as goal

pub invariant_of-self : goal.invariant_of-self
invariant_of-self g c = c.pages_are_kept.ensures.changed c.self.inside.recorder c.self.inside.tables.tables c.reserve.new.self.tables c.reserve.ensures.pages c.self.invariant

pub invariant_of-self-2 : goal.invariant_of-self-2
invariant_of-self-2 g c =
    c.pages_are_kept.ensures.changed c.self.inside.recorder c.reserve.new.self.tables c.apply_reserved.new.self.tables c.apply_reserved.ensures.pages
    (c.pages_are_kept.ensures.changed c.self.inside.recorder c.self.inside.tables.tables c.reserve.new.self.tables c.reserve.ensures.pages c.self.invariant)
