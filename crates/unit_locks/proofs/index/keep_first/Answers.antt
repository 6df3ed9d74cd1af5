use Rattle.std.proofs.Common.{ap, sym, ◌∙◌, ◌≡◌, ◌<◌, ◌≤◌, ◌-◌, ℕ, List, length, take, arith, refl}
use Rattle.unit_locks.specs.Lists.{list_at}
use Rattle.unit_locks.proofs.Keeping.{shorter, take_all, take_take}
use Rattle.unit_locks.proofs.index.keep_first.Goals as goal

pub loop-units-init : goal.loop-units-init
loop-units-init c = record { index = c.requires; kept = refl; others = λ other apart. refl }

pub loop-units-preserved : goal.loop-units-preserved
loop-units-preserved c =
    let xs = list_at c.loop-units.units.items c.args.unit in
    let size : length c.list.result.now ≡ length xs = ap length (c.list.ensures ∙ ap (λ l. list_at l c.args.unit) c.as_slice.ensures.value) in
    record {
      index = c.leave.ensures.index;
      kept = ap (take c.args.count) c.leave.ensures.items ∙ take_take xs c.args.count (length xs - 1) (omega (arith, size, c.loop-units-test.true)) ∙ c.loop-units.invariant.kept;
      others = λ other apart. c.leave.ensures.others other apart ∙ c.loop-units.invariant.others other apart;
    }

pub loop-units-smaller : goal.loop-units-smaller
loop-units-smaller c =
    let xs = list_at c.loop-units.units.items c.args.unit in
    let size : length c.list.result.now ≡ length xs = ap length (c.list.ensures ∙ ap (λ l. list_at l c.args.unit) c.as_slice.ensures.value) in
    shorter xs (list_at c.leave.new.units.items c.args.unit) c.leave.ensures.items (omega (arith, size, c.loop-units-test.true))

pub returns-clause-items : goal.returns-clause-items
returns-clause-items c =
    let xs = list_at c.loop-units.units.items c.args.unit in
    let size : length c.list.result.now ≡ length xs = ap length (c.list.ensures ∙ ap (λ l. list_at l c.args.unit) c.as_slice.ensures.value) in
    sym (take_all xs c.args.count (omega (arith, size, c.loop-units-test.false))) ∙ c.loop-units.invariant.kept
