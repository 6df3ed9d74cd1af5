-- Each column has five bytes and its name, which has at most 30.
use Rattle.std.proofs.Common.{◌≡◌, ap, map, drop, length, arith, List, []}
use Rattle.std.specs.List.{flat_map}
use Rattle.std.proofs.lemmas.List.{drop_all, length-map}
use Rattle.row_values.specs.Column.{Column, column_of}
use Rattle.row_values.specs.Schema.{is_column}
use Rattle.row_values.specs.Bytes.{column_bytes}
use Rattle.row_values.proofs.Keys.{all_at}
use Rattle.row_values.proofs.RowSteps.{column_at}
use Rattle.row_values.proofs.ByteSteps.{columns_length_from, name_short}
use Rattle.row_values.proofs.schema_bytes.columns_length.Goals as goal

pub overflow_add-length-in-loop-column : goal.overflow_add-length-in-loop-column
overflow_add-length-in-loop-column c =
    let at = column_at c.args.columns.now c.loop-column.column-index c.column-item.result c.loop-column-test.true c.column-item.is in
    let short = name_short (column_of c.column-item.result) (all_at is_column (map column_of c.args.columns.now) c.loop-column.column-index (column_of c.column-item.result) c.requires.valid at) in
    let size = ap length c.as_str.ensures.value in
    let lt = c.loop-column-test.true in
    omega (arith, short, size, c.loop-column.invariant.short, c.requires.few)

pub loop-column-preserved : goal.loop-column-preserved
loop-column-preserved c =
    let at = column_at c.args.columns.now c.loop-column.column-index c.column-item.result c.loop-column-test.true c.column-item.is in
    let short = name_short (column_of c.column-item.result) (all_at is_column (map column_of c.args.columns.now) c.loop-column.column-index (column_of c.column-item.result) c.requires.valid at) in
    let size = ap length c.as_str.ensures.value in
    let step = columns_length_from (map column_of c.args.columns.now) c.loop-column.column-index (column_of c.column-item.result) at in
    record {
      short = omega (arith, short, size, c.loop-column.invariant.short);
      whole = omega (arith, step, size, c.loop-column.invariant.whole);
    }

pub returns : goal.returns
returns c =
    let count = length-map c.args.columns.now column_of in
    let end = c.loop-column-test.false in
    let at_most = c.loop-column.auto.column-index-end in
    let none : drop c.loop-column.column-index (map column_of c.args.columns.now) ≡ [] = drop_all c.loop-column.column-index (map column_of c.args.columns.now) (omega (arith, count)) in
    let rest = ap (λ (cs : List Column). length (flat_map column_bytes cs)) none in
    record { exact = omega (arith, rest, c.loop-column.invariant.whole); short = omega (arith, c.loop-column.invariant.short, c.requires.few) }
