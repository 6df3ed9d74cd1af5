use Rattle.std.proofs.Common.{ℕ, List, subst}
use Rattle.std.specs.Global.{Vec}
use Rattle.store_check.specs.Half.{pages_of}
use Rattle.store_check.specs.Halving.{TellsFirst}
use Rattle.store_check.specs.declared.half.CheckedTable.{CheckedTable}
use Rattle.store_check.proofs.Formed.{counted_on, half_told}
use Rattle.store_check.proofs.half.check_half.Goals as goal

pub returns-in-Err-Damaged-clause-told : goal.returns-in-Err-Damaged-clause-told
returns-in-Err-Damaged-clause-told g c honest =
    let file = (g.D.Disk.life c.args.pager.now).seen in
    let half = pages_of c.args.active.now in
    let at = c.in-Err-Damaged.at in
    half_told file half (g.K.KeysBySchema.key_of c.args.keys.now) at c.first_damage.result
    (subst (λ (f : List ℕ). TellsFirst f half at c.first_damage.result) c.check_meaning.ensures.stays.same (c.first_damage.ensures.told honest))
    (rw c.in-Err-Damaged.field-0-is at (c.in-Err-Damaged.ensures.told honest))

pub returns-in-Err-Damaged-clause-cause : goal.returns-in-Err-Damaged-clause-cause
returns-in-Err-Damaged-clause-cause g c =
    counted_on (Unit {0}) (Vec CheckedTable) c.first_damage.result (g.D.Disk.life c.args.pager.now).faults (g.D.Disk.life c.check_meaning.new.pager).faults (g.D.Disk.life c.first_damage.new.pager).faults
    (rw c.in-Err-Damaged.field-0-is at c.in-Err-Damaged.ensures.cause) c.first_damage.ensures.cause
