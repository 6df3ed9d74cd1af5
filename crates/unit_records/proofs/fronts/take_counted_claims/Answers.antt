-- A claim stands there, or not so many.
use Rattle.std.proofs.Common.{arith}
use Rattle.unit_locks.specs.Claim.{IsClaim, claim_bytes}
use Rattle.unit_records.proofs.Listing.{missed}
use Rattle.unit_records.proofs.fronts.take_counted_claims.Goals as goal

pub returns-in-Err : goal.returns-in-Err
returns-in-Err c =
    let more = c.loop-test.true in
    missed claim_bytes IsClaim c.one_reading.ensures c.args.count c.loop.claims.items c.args.bytes.now c.loop.left.now c.loop.invariant.good (omega (arith, c.loop.invariant.count)) c.loop.invariant.spelled c.in-Err.error c.in-Err.ensures
