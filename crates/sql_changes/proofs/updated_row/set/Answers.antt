use Rattle.std.proofs.lemmas.List.{map-set}
use Rattle.row_values.specs.Value.{value_of}
use Rattle.sql_changes.proofs.updated_row.set.Goals as goal

pub returns-then-place-len : goal.returns-then-place-len
returns-then-place-len c = map-set value_of c.args.values.now.items c.args.place c.args.value
