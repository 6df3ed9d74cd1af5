use Rattle.std.proofs.Common.{◌≡◌, arith, sym, ap, ◌∙◌}
use Rattle.std.specs.List.{slice_get}
use Rattle.table_map.proofs.Halved.{found_here, missing_here}
use Rattle.table_map.proofs.finding.find_row.Goals as goal

pub returns-in-Equal-clause-found : goal.returns-in-Equal-clause-found
returns-in-Equal-clause-found g c up = found_here (g.K.RowKeys.key_of c.args.keys.now) c.args.key.now c.args.page.now.rows _ c.row-row.result.now up c.row-row.ensures (sym c.in-Equal.ensures)

pub returns-clause-found : goal.returns-clause-found
returns-clause-found g c up =
    let inv = c.loop-low.invariant in
    let same : c.loop-low.low ≡ c.loop-low.high = omega (arith, inv.between, c.loop-low-test.false) in
    missing_here (g.K.RowKeys.key_of c.args.keys.now) c.args.key.now c.args.page.now.rows c.loop-low.low up (omega (arith, inv.between, inv.within)) inv.behind
    (λ row is. inv.before row (ap (slice_get c.args.page.now.rows) (sym same) ∙ is))

pub returns-in-Equal-clause-here : goal.returns-in-Equal-clause-here
returns-in-Equal-clause-here g c = record { number = _; is = c.row-row.ensures; same = sym c.in-Equal.ensures }
