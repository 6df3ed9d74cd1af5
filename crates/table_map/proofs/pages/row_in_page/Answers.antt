use Rattle.std.proofs.Common.{◌∙◌, ap, subst, sym}
use Rattle.row_pages.specs.Page.{Page}
use Rattle.row_pages.specs.declared.page.PageKind.TheVariants as kind
use Rattle.row_pages.proofs.PageBytes.{one_page}
use Rattle.key_map.specs.Merging.{InOrder, row_at}
use Rattle.table_map.specs.Keyed.{keyed_rows}
use Rattle.table_map.proofs.pages.row_in_page.Goals as goal

pub returns-in-Ok-clause-found : goal.returns-in-Ok-clause-found
returns-in-Ok-clause-found g c rows honest is up =
    let key_of = g.K.RowKeys.key_of c.args.keys.now in
    let same = one_page c.in_ok-page.page.now (record { kind = kind.Rows; rows = rows }) _ (c.in_ok-page.ensures.page honest) is in
    c.in-Ok.ensures.found (subst (λ (p : Page). InOrder (keyed_rows key_of p.rows)) (sym same) up) ∙ ap (λ (p : Page). row_at c.args.key.now (keyed_rows key_of p.rows)) same
