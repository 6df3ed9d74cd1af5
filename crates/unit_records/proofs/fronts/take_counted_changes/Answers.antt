-- A change stands there, or not so many.
use Rattle.std.proofs.Common.{arith, map}
use Rattle.tables.specs.Change.{change_bytes}
use Rattle.tables.specs.ChangeView.{change_of}
use Rattle.unit_records.specs.Records.{IsChange}
use Rattle.unit_records.proofs.Listing.{missed}
use Rattle.unit_records.proofs.Parts.{changes_once}
use Rattle.unit_records.proofs.fronts.take_counted_changes.Goals as goal

pub returns-in-Err : goal.returns-in-Err
returns-in-Err c =
    let more = c.loop-test.true in
    missed change_bytes IsChange (changes_once c.changes_have_their_bytes.ensures.written) c.args.count (map change_of c.loop.changes.items) c.args.bytes.now c.loop.left.now c.loop.invariant.good (omega (arith, c.loop.invariant.count)) c.loop.invariant.spelled
    c.in-Err.error c.in-Err.ensures
