-- Bytes that are a row were written so.
use Rattle.row_values.proofs.RowColumns.{row_written}
use Rattle.row_values.proofs.row_ref.RowRef.of_row.Goals as goal

pub invariant_of-result : goal.invariant_of-result
invariant_of-result c = record { is_row = c.requires; written = row_written c.args.schema.now c.args.bytes.now (λ i. (c.type_inv.bytes i).fits) c.requires }
