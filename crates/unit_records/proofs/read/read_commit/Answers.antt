-- The changes are the whole body.
use Rattle.std.proofs.Common.{map, sym, ◌∙◌, refl}
use Rattle.tables.specs.Change.{change_bytes}
use Rattle.tables.specs.ChangeView.{change_of}
use Rattle.unit_journal.specs.declared.kind.Kind.TheVariants.{Commit}
use Rattle.unit_records.specs.Fronts.{AreListed, listed}
use Rattle.unit_records.specs.Records.{IsChange}
use Rattle.unit_records.proofs.Bodies.{commit_damaged, commit_too_long, fails, left_over}
use Rattle.unit_records.proofs.read.read_commit.Goals as goal

pub returns-in-Err : goal.returns-in-Err
returns-in-Err c =
    fails c.parts_stand_once.ensures (listed change_bytes) (AreListed IsChange) c.args.body.now Commit c.args.body.now (commit_damaged c.parts_stand_once.ensures c.args.body.now) c.in-Err.error c.in-Err.ensures

pub returns-then-not-is_empty : goal.returns-then-not-is_empty
returns-then-not-is_empty c =
    commit_too_long c.parts_stand_once.ensures c.args.body.now c.in-Ok.taken.1.now (map change_of c.in-Ok.taken.0.items) c.in-Ok.ensures.0 c.in-Ok.ensures.1 (left_over c.in-Ok.taken.1.now 0 (sym c.is_empty.ensures ∙ c.if-not-is_empty.true) refl)
