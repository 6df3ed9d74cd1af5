use Rattle.std.proofs.Common.{rules, inr, ◌+◌, sym, ap, subst, arith}
use Rattle.drda_words.specs.Place.{part}
use Rattle.row_pages.specs.Page.{IsPage, Page}
use Rattle.row_pages.specs.declared.page.PageKind.TheVariants as kind
use Rattle.row_pages.proofs.PageBytes.{one_page}
use Rattle.table_map.specs.Damage.{HasNoRows}
use Rattle.table_map.specs.Walk.{PagesLeft}
use Rattle.table_map.proofs.Damaged.{handed_on, no_items, no_page, no_rows, page_told}
use Rattle.table_map.proofs.Lent.{none_first}
use Rattle.table_map.proofs.base.RowsLeft.settle.Goals as goal

pub returns-in_err-page-clause-damaged : goal.returns-in_err-page-clause-damaged
returns-in_err-page-clause-damaged g c honest =
    let file = (g.D.Disk.life c.args.disk.now).seen in
    handed_on _ _ c.in_err-page.field-0.0 c.read_page.result c.from_residual.result (search rules) (search rules)
    (λ none. (omega (arith, c.if-self-eq0.false, ap (λ (p : PagesLeft). p.pages) c.self.view_is), no_page _ (subst (λ a. (page : _) → IsPage page (part file a 8192) → ⊥) (ap (λ (p : PagesLeft). p.at) c.self.view_is) none)))
    (page_told _ _ c.read_page.result (λ none. none) (c.read_page.ensures.damaged honest))

pub returns-then-len-eq0-clause-damaged : goal.returns-then-len-eq0-clause-damaged
returns-then-len-eq0-clause-damaged g c honest =
    let file = (g.D.Disk.life c.args.disk.now).seen in
    let empty = no_items c.in_ok-page.page.rows (omega (arith, c.len.ensures, c.if-len-eq0.true)) in
    (omega (arith, c.if-self-eq0.false, ap (λ (p : PagesLeft). p.pages) c.self.view_is), subst (λ a. HasNoRows (part file a 8192)) (ap (λ (p : PagesLeft). p.at) c.self.view_is) (no_rows c.in_ok-page.page _ (c.in_ok-page.ensures.page honest) empty))

pub returns-clause-rows : goal.returns-clause-rows
returns-clause-rows g c honest =
    let file = (g.D.Disk.life c.args.disk.now).seen in
    inr
    (record {
      none = none_first c.args.self.now.rows c.first.result c.first.ensures (sym c.if-is_some.ensures);
      at = ap (λ (p : PagesLeft). p.at + 8192) c.self.view_is;
      pages = omega (arith, c.if-self-eq0.false, ap (λ (p : PagesLeft). p.pages) c.self.view_is);
      rows = λ rows is.
          ap (λ (p : Page). p.rows)
          (one_page c.in_ok-page.page (record { kind = kind.Rows; rows = rows }) _ (c.in_ok-page.ensures.page honest) (subst (λ a. IsPage (record { kind = kind.Rows; rows = rows }) (part file a 8192)) (ap (λ (p : PagesLeft). p.at) (sym c.self.view_is)) is));
    })
