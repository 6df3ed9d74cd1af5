-- Bytes that are read as a row were written so.
use Rattle.std.proofs.Common.{map}
use Rattle.row_values.specs.Column.{column_of}
use Rattle.row_values.proofs.RowColumns.{row_found, row_written}
use Rattle.row_values.proofs.row_ref.RowRef.parse.Goals as goal

pub invariant_of-result : goal.invariant_of-result
invariant_of-result c =
    let good = row_found c.args.schema.now c.args.bytes.now (map column_of c.columns.result.now) c.has_values.result c.columns.ensures.columns c.if-bytes-gt-MAX_ROW_BYTES.false c.has_values.ensures c.if-not-has_values.false in
    record { is_row = good; written = row_written c.args.schema.now c.args.bytes.now (λ i. (c.type_inv.bytes i).fits) good }

pub returns-clause-written : goal.returns-clause-written
returns-clause-written c =
    row_written c.args.schema.now c.args.bytes.now (λ i. (c.type_inv.bytes i).fits)
    (row_found c.args.schema.now c.args.bytes.now (map column_of c.columns.result.now) c.has_values.result c.columns.ensures.columns c.if-bytes-gt-MAX_ROW_BYTES.false c.has_values.ensures c.if-not-has_values.false)
