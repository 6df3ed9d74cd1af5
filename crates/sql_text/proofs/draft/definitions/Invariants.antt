use Rattle.std.proofs.Common.{◌≡◌, map, take}
use Rattle.sql_text.specs.Plain.{definition}
use Rattle.sql_text.proofs.draft.definitions.Given as goal

abbrev pub invariant-loop-column : goal.invariant-loop-column
invariant-loop-column l = l.made ≡ map definition (take l.column-index l.columns)
