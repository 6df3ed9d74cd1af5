-- XID, claims and changes are the whole body.
use Rattle.std.proofs.Common.{map, sym, ◌∙◌, refl}
use Rattle.tables.specs.Change.{change_bytes}
use Rattle.tables.specs.ChangeView.{change_of}
use Rattle.unit_locks.specs.Claim.{IsClaim, claim_bytes}
use Rattle.unit_journal.specs.declared.kind.Kind.TheVariants.{Prepare}
use Rattle.unit_records.specs.Fronts.{AreListed, listed}
use Rattle.unit_records.specs.Records.{IsChange}
use Rattle.unit_records.proofs.Bodies.{fails, is_prepare, left_over, nothing_left, prepare_too_long, unchanged, unclaimed}
use Rattle.unit_records.proofs.read.read_prepare.Goals as goal

pub returns-in-Err-take_claims : goal.returns-in-Err-take_claims
returns-in-Err-take_claims c =
    let o = c.parts_stand_once.ensures in
    fails o (listed claim_bytes) (AreListed IsClaim) c.in-Ok.taken.1.now Prepare c.args.body.now (unclaimed o c.args.body.now c.in-Ok.taken.0 c.in-Ok.taken.1.now c.in-Ok.ensures.0 c.in-Ok.ensures.1)
    c.in-Err-take_claims.error c.in-Err-take_claims.ensures

pub returns-in-Err-take_changes : goal.returns-in-Err-take_changes
returns-in-Err-take_changes c =
    let o = c.parts_stand_once.ensures in
    fails o (listed change_bytes) (AreListed IsChange) c.in-Ok-take_claims.taken.1.now Prepare c.args.body.now
    (unchanged o c.args.body.now c.in-Ok.taken.0 c.in-Ok.taken.1.now c.in-Ok.ensures.0 c.in-Ok.ensures.1 c.in-Ok-take_claims.taken.0.items c.in-Ok-take_claims.taken.1.now c.in-Ok-take_claims.ensures.0 c.in-Ok-take_claims.ensures.1)
    c.in-Err-take_changes.error c.in-Err-take_changes.ensures

pub returns-then-not-is_empty : goal.returns-then-not-is_empty
returns-then-not-is_empty c =
    prepare_too_long c.parts_stand_once.ensures c.args.body.now c.in-Ok.taken.0 c.in-Ok.taken.1.now c.in-Ok.ensures.0 c.in-Ok.ensures.1
    c.in-Ok-take_claims.taken.0.items c.in-Ok-take_claims.taken.1.now c.in-Ok-take_claims.ensures.0 c.in-Ok-take_claims.ensures.1
    (map change_of c.in-Ok-take_changes.taken.0.items) c.in-Ok-take_changes.taken.1.now c.in-Ok-take_changes.ensures.0 c.in-Ok-take_changes.ensures.1
    (left_over c.in-Ok-take_changes.taken.1.now 0 (sym c.is_empty.ensures ∙ c.if-not-is_empty.true) refl)

pub returns : goal.returns
returns c =
    is_prepare c.parts_stand_once.ensures c.args.body.now c.in-Ok.taken.0 c.in-Ok.taken.1.now c.in-Ok.ensures.0 c.in-Ok.ensures.1
    c.in-Ok-take_claims.taken.0.items c.in-Ok-take_claims.taken.1.now c.in-Ok-take_claims.ensures.0 c.in-Ok-take_claims.ensures.1
    (map change_of c.in-Ok-take_changes.taken.0.items) c.in-Ok-take_changes.taken.1.now c.in-Ok-take_changes.ensures.0 c.in-Ok-take_changes.ensures.1
    (nothing_left c.in-Ok-take_changes.taken.1.now (sym c.is_empty.ensures ∙ c.if-not-is_empty.false))
