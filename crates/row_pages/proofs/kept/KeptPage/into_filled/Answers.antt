use Rattle.std.proofs.Common.{◌≡◌, arith, ap, ◌∙◌, length}
use Rattle.row_pages.specs.Page.{Page}
use Rattle.row_pages.proofs.Refilled.{filled_on, rows_stay}
use Rattle.row_pages.proofs.kept.KeptPage.into_filled.Goals as goal

pub returns-clause-filled : goal.returns-clause-filled
returns-clause-filled c =
    let p = c.self.inside in
    let many : c.len.result ≡ length p.starts.items = omega (arith, c.len.ensures, p.starts.ok.0) in
    filled_on p.kind p.starts.items p.end c.len.result p.bytes c.truncate.new.self c.self.invariant many c.truncate.ensures.items c.truncate.ensures.capacity

pub returns-clause-rows : goal.returns-clause-rows
returns-clause-rows c =
    let p = c.self.inside in
    let many : c.len.result ≡ length p.starts.items = omega (arith, c.len.ensures, p.starts.ok.0) in
    rows_stay p.kind p.starts.items p.end c.len.result p.bytes c.truncate.new.self c.self.invariant many c.truncate.ensures.items c.truncate.ensures.capacity
    ∙ ap (λ (q : Page). q.rows) c.self.view_is
