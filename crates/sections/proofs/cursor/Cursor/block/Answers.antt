use Rattle.std.proofs.Common.{◌≡◌, subst, true}
use Rattle.row_values.specs.Schema.{Schema, is_schema}
use Rattle.sections.proofs.Room.{blocks_short, descriptions_short}
use Rattle.sections.proofs.cursor.Cursor.block.Goals as goal

pub returns-clause-short : goal.returns-clause-short
returns-clause-short c =
    let rows = c.self.inside.rows in
    let good : is_schema rows.schema ≡ true = subst (λ (s : Schema). is_schema s ≡ true) c.schema.ensures c.columns-columns.ensures.good in
    let listed = c.selected-places.ensures.good in
    (descriptions_short rows listed, blocks_short rows c.self.inside.place c.unwrap_or-size.result c.block-count.result good listed c.block-count.ensures)
