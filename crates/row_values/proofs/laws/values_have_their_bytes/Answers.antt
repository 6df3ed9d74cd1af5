use Rattle.row_values.proofs.Keys.{counted_columns}
use Rattle.row_values.proofs.ValueLaws.{values_at-is, values_at-row_bytes}
use Rattle.row_values.proofs.laws.values_have_their_bytes.Goals as goal

pub returns : goal.returns
returns c = record {
  written = λ columns values good fit. values_at-row_bytes columns values (counted_columns columns good) fit;
  read = values_at-is;
}
