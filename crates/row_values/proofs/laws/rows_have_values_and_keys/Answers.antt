use Rattle.row_values.proofs.ReadSteps.{values_count}
use Rattle.row_values.proofs.RowColumns.{row_values_at, row_written}
use Rattle.row_values.proofs.RowKeys.{row_key_good}
use Rattle.row_values.specs.Row.{values_in}
use Rattle.row_values.proofs.laws.rows_have_values_and_keys.Goals as goal

pub returns : goal.returns
returns c = record {
  values = λ schema row good. values_count schema.columns row (values_in schema row) (row_values_at schema row good);
  keys = λ schema row fit all good. row_key_good schema row fit (row_written schema row all good).0;
}
