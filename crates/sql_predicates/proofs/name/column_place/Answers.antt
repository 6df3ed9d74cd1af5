use Rattle.std.proofs.Common.{sym, ◌∙◌}
use Rattle.row_values.specs.Column.{column_of}
use Rattle.sql_text.specs.Checks.{same_name}
use Rattle.sql_predicates.proofs.ColumnPlaces.{position_map}
use Rattle.sql_predicates.proofs.name.column_place.Goals as goal

pub returns : goal.returns
returns c = c.first_named.ensures ∙ sym (position_map (λ column. same_name column.name c.args.name.now) column_of c.args.columns.now)
