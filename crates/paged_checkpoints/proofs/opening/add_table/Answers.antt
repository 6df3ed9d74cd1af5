-- The noted rows are those of a table over its pages.
use Rattle.paged_checkpoints.proofs.Noted.{are_rows_of}
use Rattle.paged_checkpoints.proofs.opening.add_table.Goals as goal

pub add-requires-clause-rows : goal.add-requires-clause-rows
add-requires-clause-rows c = are_rows_of c.rows_stand_at_their_forms.ensures c.args.checked.table.schema c.args.checked.pages.rows.listed.value c.columns-columns.ensures.good c.requires.good
