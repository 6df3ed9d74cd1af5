use Rattle.std.proofs.Common.{◌≡◌, map, take}
use Rattle.sql_text.specs.Plain.{key_column}
use Rattle.sql_text.proofs.draft.key_columns.Given as goal

abbrev pub invariant-loop-column : goal.invariant-loop-column
invariant-loop-column l = l.made ≡ map key_column (take l.column-index l.key)
