use Rattle.std.proofs.Common.{◌≡◌, rules, ℕ, List, Some, subst, sym}
use Rattle.std.specs.List.{slice_get}
use Rattle.row_pages.specs.Page.{Page}
use Rattle.table_map.specs.Judged.{IsRowOf}
use Rattle.table_map.proofs.pages.copy_found.Goals as goal

pub returns-in_ok-to_vec-in-Some-clause-judged :
    goal.returns-in_ok-to_vec-in-Some-clause-judged
returns-in_ok-to_vec-in-Some-clause-judged g c judged =
    let found = c.in-Some.ensures.here in
    let same : c.in_ok-to_vec-in-Some.field-0.items ≡ c.in-Some.row.now = search rules in
    subst (λ (row : List ℕ). IsRowOf (g.K.RowKeys.key_of c.args.keys.now) c.args.schema.now c.args.key.now row) (sym same)
    (record { good = c.is_row-is_judged.ensures.known judged found.number (subst (λ (p : Page). slice_get p.rows found.number ≡ Some c.in-Some.row.now) c.page.ensures found.is); bytes = c.is_row-is_judged.ensures.bytes; same = found.same })
