use Rattle.tables.specs.ChangeView.{change_of}
use Rattle.unit_records.proofs.Parts.{change_taken}
use Rattle.unit_records.proofs.fronts.take_change.Goals as goal

pub returns : goal.returns
returns c =
    change_taken c.changes_have_their_bytes.ensures.written c.changes_have_their_bytes.ensures.read (λ x. (change_of x.0, x.1.now)) c.args.bytes.now c.read.result
    (λ i. (c.type_inv.bytes i).fits) c.read.ensures
