use Rattle.std.proofs.Common.{arith, ap, length, drop}
use Rattle.row_pages.specs.Page.{Page}
use Rattle.row_pages.proofs.Placed.{rows_count}
use Rattle.row_pages.proofs.kept.KeptPage.len.Goals as goal

pub returns : goal.returns
returns c =
    let starts = c.self.inside.starts in
    omega (arith, c.len.ensures, starts.ok.0, rows_count (length starts.items) (drop 3 c.self.inside.bytes.items) c.self.invariant.places.rows.has, ap (λ (p : Page). length p.rows) c.self.view_is)
