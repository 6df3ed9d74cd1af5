-- One change more is of the table.
use Rattle.std.proofs.Common.{◌≡◌, arith, rules}
use Rattle.tables.specs.ChangeView.{change_of}
use Rattle.unit_changes.specs.UnitTable.{name_of}
use Rattle.unit_changes.proofs.Listing.{good_next, of_end, of_next}
use Rattle.unit_changes.proofs.index.are_of.Goals as goal

pub loop-i-preserved : goal.loop-i-preserved
loop-i-preserved c =
    let named : name_of (change_of c.index-changes-i.result) ≡ c.args.name.now = search rules in
    record {
      named = λ rest. c.loop-i.invariant.named (of_next c.args.name.now c.args.changes.now c.loop-i.i c.index-changes-i.result c.index-changes-i.is (omega arith) named rest);
      good = λ rest. c.loop-i.invariant.good (good_next c.args.changes.now c.loop-i.i c.index-changes-i.result c.index-changes-i.is (omega arith) rest);
    }

pub returns-clause-named : goal.returns-clause-named
returns-clause-named c = λ h. c.loop-i.invariant.named (of_end c.args.name.now c.args.changes.now c.loop-i.i (omega arith)).0

pub returns-clause-good : goal.returns-clause-good
returns-clause-good c = λ h. c.loop-i.invariant.good (of_end c.args.name.now c.args.changes.now c.loop-i.i (omega arith)).1
