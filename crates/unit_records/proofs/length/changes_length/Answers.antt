use Rattle.std.proofs.Common.{arith, map}
use Rattle.tables.specs.Change.{change_bytes}
use Rattle.tables.specs.ChangeView.{change_of}
use Rattle.std.proofs.lemmas.List.{length-map}
use Rattle.unit_records.proofs.Lengths.{none_left}
use Rattle.unit_records.proofs.length.changes_length.Goals as goal

pub returns : goal.returns
returns c =
    let few = c.in_default.len_below in
    let none = none_left change_bytes (map change_of c.loop-left.left.now) (omega (arith, length-map c.loop-left.left.now change_of)) in
    omega (arith, none, c.loop-left.invariant.sum, c.loop-left.invariant.small)
