use Rattle.std.proofs.Common.{◌≡◌, ◌∙◌, ◌-◌, ◌+◌, ◌<◌, sym, ap, Some, arith, ℕ}
use Rattle.row_pages.specs.Reading.{has_rows, behind_rows, row_at}
use Rattle.row_pages.proofs.Passing.{has_past, behind_past}
use Rattle.row_pages.proofs.rows.behind_rows.Goals as goal

pub loop-preserved : goal.loop-preserved
loop-preserved c =
    let left : ℕ = c.args.count - c.loop.counter in
    let some : 0 < c.args.count - c.loop.counter = omega (arith, c.loop-test.true) in
    let one : (c.args.count - c.loop.counter) - 1 ≡ c.args.count - (c.loop.counter + 1) = omega arith in
    let first : row_at c.loop.rest.now ≡ Some (c.in_ok-after.field-0-0.now, c.in_ok-after.after.now) = sym c.in_ok-after.ensures in
    record {
      has = c.loop.invariant.has ∙ has_past left c.loop.rest.now _ c.in_ok-after.after.now some first ∙ ap (λ n. has_rows n c.in_ok-after.after.now) one;
      behind = c.loop.invariant.behind ∙ behind_past left c.loop.rest.now _ c.in_ok-after.after.now some first ∙ ap (λ n. behind_rows n c.in_ok-after.after.now) one;
    }
