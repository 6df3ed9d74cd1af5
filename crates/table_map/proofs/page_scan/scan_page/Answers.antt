use Rattle.std.proofs.Common.{◌≡◌, List, ℕ, [], ◌∷◌, length, arith, subst, ap, ◌∙◌}
use Rattle.row_pages.specs.Page.{Page}
use Rattle.row_pages.specs.declared.page.PageKind.TheVariants as kind
use Rattle.row_pages.proofs.PageBytes.{one_page}
use Rattle.table_map.specs.Passing.{Passes}
use Rattle.table_map.proofs.Damaged.{no_rows}
use Rattle.table_map.proofs.page_scan.scan_page.Goals as goal

none_left : (rows : List (List ℕ)) → length rows ≡ 0 → rows ≡ []
none_left [] is = cc
none_left (row ∷ rows) is = absurd (omega (arith, is))

pub returns-then-len-eq0-clause-damaged : goal.returns-then-len-eq0-clause-damaged
returns-then-len-eq0-clause-damaged g c honest =
    no_rows c.in_ok-kept.kept.now _ (c.in_ok-kept.ensures.page honest) (none_left c.in_ok-kept.kept.now.rows (omega (arith, c.len.ensures, c.if-len-eq0.true, ap (λ (p : Page). length p.rows) c.page-page.ensures)))

pub returns-in-Ok-clause-rows : goal.returns-in-Ok-clause-rows
returns-in-Ok-clause-rows g c page honest is =
    let key_of = g.K.RowKeys.key_of c.args.keys.now in
    let same = c.page-page.ensures ∙ one_page c.in_ok-kept.kept.now (record { kind = kind.Rows; rows = page }) _ (c.in_ok-kept.ensures.page honest) is in
    subst (λ (p : Page). Passes key_of p.rows c.args.changes.now c.push_page.new.changes c.args.rows.now c.push_page.new.rows) same c.in-Ok.ensures

pub returns-in-Ok-clause-judged : goal.returns-in-Ok-clause-judged
returns-in-Ok-clause-judged g c schema is good =
    let key_of = g.K.RowKeys.key_of c.args.keys.now in
    record {
      page = c.in_ok-kept.kept.now.rows;
      some = omega (arith, c.if-len-eq0.false, c.len.ensures, ap (λ (p : Page). length p.rows) c.page-page.ensures);
      judged = c.is_good-good.ensures.judged schema is good;
      within = c.is_good-good.ensures.within good;
      passes = subst (λ (p : Page). Passes key_of p.rows c.args.changes.now c.push_page.new.changes c.args.rows.now c.push_page.new.rows) c.page-page.ensures c.in-Ok.ensures;
    }
