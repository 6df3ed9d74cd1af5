-- What is left is still what the tables have.
use Rattle.ahead_view.proofs.view.AheadViewTableView.scan.Goals as goal

pub invariant_of-self : goal.invariant_of-self
invariant_of-self c = record { good = c.self.invariant.good; schemas = c.self.invariant.schemas; names = c.self.invariant.names; read = c.take_rows.ensures.left c.self.inside.given.value c.self.invariant.read }

pub invariant_of-self-2 : goal.invariant_of-self-2
invariant_of-self-2 c = record { good = c.self.invariant.good; schemas = c.self.invariant.schemas; names = c.self.invariant.names; read = c.take_rows.ensures.left c.self.inside.given.value c.self.invariant.read }
