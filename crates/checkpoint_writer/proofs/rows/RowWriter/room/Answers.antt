use Rattle.checkpoint_writer.proofs.Filling.{begins_empty, begins_full}
use Rattle.checkpoint_writer.proofs.rows.RowWriter.room.Goals as goal

pub returns-then-self : goal.returns-then-self
returns-then-self c = begins_empty c.args.self.now 0 c.if-self.true

pub returns-else-self : goal.returns-else-self
returns-else-self c = begins_full c.args.self.now c.room.result c.room.ensures
