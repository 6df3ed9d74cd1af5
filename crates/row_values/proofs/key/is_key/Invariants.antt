-- The bytes are a key exactly where the rest are values of the key columns to come.
use Rattle.std.proofs.Common.{◌≡◌, drop}
use Rattle.std.specs.Prelude.{is_some}
use Rattle.row_values.specs.Schema.{key_columns}
use Rattle.row_values.specs.Row.{values_at}
use Rattle.row_values.specs.Key.{is_key}
use Rattle.row_values.proofs.key.is_key.Given as goal

abbrev pub invariant-loop-i : goal.invariant-loop-i
invariant-loop-i l = is_some (values_at (drop l.i (key_columns l.schema)) l.rest) ≡ is_key l.schema l.bytes
