-- What a row that stands in lent bytes shows.
use Rattle.std.specs.Prelude.{ℕ, List}
use Rattle.row_values.specs.declared.row_ref.RowRef.{RowRef}
use Rattle.row_values.specs.Schema.{Schema}

-- the schema of the row
abbrev pub schema_in : RowRef → Schema
schema_in r = r.schema.now

-- the bytes of the row
abbrev pub row_in : RowRef → List ℕ
row_in r = r.bytes.now
