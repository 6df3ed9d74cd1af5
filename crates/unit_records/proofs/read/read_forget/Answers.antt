-- The XID is the whole body.
use Rattle.std.proofs.Common.{ℕ, List, refl, sym, ◌∙◌}
use Rattle.xa_calls.specs.Xid.{IsXid}
use Rattle.unit_journal.specs.declared.kind.Kind.TheVariants.{Forget}
use Rattle.unit_records.proofs.Bodies.{fails, forget_too_long, is_forget, left_over, nothing_left, unnamed_forget}
use Rattle.unit_records.proofs.read.read_forget.Goals as goal

pub returns-in-Err : goal.returns-in-Err
returns-in-Err c =
    fails c.parts_stand_once.ensures (λ (xid : List ℕ). xid) IsXid c.args.body.now Forget c.args.body.now (unnamed_forget c.parts_stand_once.ensures c.args.body.now) c.in-Err.error c.in-Err.ensures

pub returns-then-not-is_empty : goal.returns-then-not-is_empty
returns-then-not-is_empty c =
    forget_too_long c.parts_stand_once.ensures c.args.body.now c.in-Ok.taken.0 c.in-Ok.taken.1.now c.in-Ok.ensures.0 c.in-Ok.ensures.1
    (left_over c.in-Ok.taken.1.now 0 (sym c.is_empty.ensures ∙ c.if-not-is_empty.true) refl)

pub returns : goal.returns
returns c =
    is_forget c.parts_stand_once.ensures c.args.body.now c.in-Ok.taken.0 c.in-Ok.taken.1.now c.in-Ok.ensures.0 c.in-Ok.ensures.1
    (nothing_left c.in-Ok.taken.1.now (sym c.is_empty.ensures ∙ c.if-not-is_empty.false))
