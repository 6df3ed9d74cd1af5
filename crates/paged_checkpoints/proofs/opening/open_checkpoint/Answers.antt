-- A half that is whole has the tables that are opened.
use Rattle.std.proofs.Common.{refl, ap, ◌∙◌}
use Rattle.tables.specs.View.{is_store}
use Rattle.store_check.specs.Checkpoint.{store_on}
use Rattle.store_check.specs.Half.{pages_of}
use Rattle.paged_checkpoints.proofs.Behind.{all_apart, all_inside, all_opened}
use Rattle.paged_checkpoints.proofs.Noted.{all_same, all_stand}
use Rattle.paged_checkpoints.proofs.opening.open_checkpoint.Goals as goal

pub returns-clause-told : goal.returns-clause-told
returns-clause-told g c honest =
    let file = (g.D.Disk.life c.args.pager.now).seen in
    let half = pages_of c.args.active.now in
    let cs = c.in_ok-tables.tables.items in
    let told = c.in_ok-tables.ensures.told honest in
    let same = all_same half.at cs told.0 told.2 told.3 in
    let good = ap is_store same ∙ c.checkpoints_are_known.ensures.stores file half (store_on told.0) (record { tables = told.0; whole = told.1; is = refl }) in
    all_opened file half cs told.0 c.add_tables.result told.1 same (all_stand c.whole_is_stored.ensures file half.at cs told.0 told.2 told.3 told.1.whole) c.add_tables.ensures.tables c.add_tables.ensures.stand (c.add_tables.ensures.damaged good)

pub returns-clause-inside : goal.returns-clause-inside
returns-clause-inside g c = all_inside c.args.active.now.region.at c.in_ok-tables.tables.items c.add_tables.result c.in_ok-tables.ensures.within.below c.add_tables.ensures.inside

pub returns-clause-apart : goal.returns-clause-apart
returns-clause-apart g c = all_apart c.args.active.now c.in_ok-tables.tables.items c.add_tables.result c.requires.pages c.in_ok-tables.ensures.within.below c.in_ok-tables.ensures.within.behind c.add_tables.ensures.apart
