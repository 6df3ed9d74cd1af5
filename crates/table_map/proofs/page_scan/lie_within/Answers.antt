use Rattle.std.proofs.Common.{ℕ, List, Option, subst, sym, ◌∙◌}
use Rattle.std.specs.Borrow.{Bor}
use Rattle.table_map.specs.Judged.{ComesBefore}
use Rattle.table_map.specs.Keyed.{seen}
use Rattle.table_map.proofs.Joined.{first_is, last_is}
use Rattle.table_map.proofs.page_scan.lie_within.Goals as goal

pub returns-in-Some : goal.returns-in-Some
returns-in-Some g c more =
    let key_of = g.K.RowKeys.key_of c.args.keys.now in
    let rows = c.args.page.now.rows in
    record {
      first = first_is key_of c.args.bounds.first.now rows c.row.result.now c.compare.result c.row.ensures c.compare.ensures (sym c.if-is_gt.ensures);
      last = λ row at. subst (λ (e : Option (Bor (List ℕ))). ComesBefore (key_of row) (seen e)) (sym c.in-Some.is) (last_is key_of c.in-Some.end.now rows c.len.result c.row-in-Some.result.now c.compare-in-Some.result c.row-in-Some.ensures c.len.ensures c.compare-in-Some.ensures (sym c.is_gt-in-Some.ensures ∙ more) row at);
    }

pub returns-in-None : goal.returns-in-None
returns-in-None g c more =
    let key_of = g.K.RowKeys.key_of c.args.keys.now in
    record {
      first = first_is key_of c.args.bounds.first.now c.args.page.now.rows c.row.result.now c.compare.result c.row.ensures c.compare.ensures (sym c.if-is_gt.ensures);
      last = λ row at. subst (λ (e : Option (Bor (List ℕ))). ComesBefore (key_of row) (seen e)) (sym c.in-None.is) tt;
    }
