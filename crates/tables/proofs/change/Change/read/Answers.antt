-- What is read can be written.
use Rattle.std.proofs.Common.{sym}
use Rattle.tables.specs.Change.{action_of}
use Rattle.row_values.proofs.ByteSteps.{name_good}
use Rattle.tables.proofs.ChangeLaws.{change_good}
use Rattle.tables.proofs.change.Change.read.Goals as goal

pub invariant_of-result : goal.invariant_of-result
invariant_of-result c =
    record { good = change_good _ _ _ (action_of c.in-Ok.action, c.in-Ok.rest.now) (name_good _ _ (sym c.in-Some.ensures)) c.in-Ok.ensures }
