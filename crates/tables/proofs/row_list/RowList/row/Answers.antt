-- The rows of a list are rows of its schema.
use Rattle.std.proofs.Common.{ap, sym, subst, ◌≡◌, ◌∙◌, true, Some}
use Rattle.std.specs.List.{slice_get}
use Rattle.row_values.specs.Row.{is_row}
use Rattle.row_values.specs.Schema.{Schema}
use Rattle.tables.specs.RowList.{RowList, is_list}
use Rattle.tables.proofs.Listing.{list_good}
use Rattle.tables.proofs.row_list.RowList.row.Goals as goal

pub of_row-requires : goal.of_row-requires
of_row-requires c =
    let at : slice_get c.args.self.now.rows c.args.i ≡ Some c.row.result.now = ap (λ (l : RowList). slice_get l.rows c.args.i) (sym c.self.view_is) ∙ c.row.ensures in
    let good = list_good c.args.self.now c.args.i c.row.result.now (subst (λ (l : RowList). is_list l ≡ true) c.self.view_is c.self.invariant) at in
    ap (λ (s : Schema). is_row s c.row.result.now) c.schema.ensures ∙ good

pub returns : goal.returns
returns c =
    (c.of_row.ensures.schema ∙ c.schema.ensures, ap (λ (l : RowList). slice_get l.rows c.args.i) (sym c.self.view_is) ∙ c.row.ensures ∙ ap Some (sym c.of_row.ensures.bytes))
