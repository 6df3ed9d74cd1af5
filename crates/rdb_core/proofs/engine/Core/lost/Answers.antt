use Rattle.std.proofs.Common.{◌≡◌, List, refl, sym, ◌∙◌, ap}
use Rattle.xa_manager.specs.declared.branch.Branch.{Branch}
use Rattle.core_model.specs.Units.{Held, local, without}
use Rattle.core_model.specs.Events.{Base}
use Rattle.core_model.specs.Step.{lost_xids}
use Rattle.paged_tables.specs.PagedTables.{store_in}
use Rattle.rdb_core.specs.Steps.{left_units}
use Rattle.rdb_core.proofs.Lost.{as_events}
use Rattle.rdb_core.proofs.Pages.{pages_rest}
use Rattle.rdb_core.proofs.engine.Core.lost.Goals as goal

pub returns : goal.returns
returns g c =
    let n = c.args.conversation in
    let old = c.args.self.now in
    let s = store_in old.base.tables in
    let xs = lost_xids old.branches n in
    let units : c.end_lost.new.units ≡ left_units xs (without (local n) old.base.units) =
    c.end_lost.ensures
    ∙ ap (λ (bs : List Branch). left_units (lost_xids bs n) c.end-changes.new.self) c.branches.ensures.all
    ∙ ap (λ (us : List Held). left_units xs us) c.end-changes.ensures.ended in
    let base = ap (λ (us : List Held). let b : Base = record { store = s; units = us } in b) units ∙ sym (as_events xs s (without (local n) old.base.units)) in
    record { step = record { taken = record { answer_is = refl; state = λ j. record { base = base j; branches = c.lost.ensures j } }; recorded = refl }; pages = pages_rest old.base.tables.tables }
