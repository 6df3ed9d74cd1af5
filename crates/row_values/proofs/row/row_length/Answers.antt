-- Each column's value fits it, and its bytes are the next of the row.
use Rattle.std.proofs.Common.{arith, map}
use Rattle.row_values.specs.declared.value.Value.TheVariants.{Null}
use Rattle.row_values.specs.Value.{value_of}
use Rattle.row_values.specs.Column.{column_of}
use Rattle.row_values.proofs.RowSteps.{column_at, value_at_place, fits_at, in_columns, step_length, end_length}
use Rattle.row_values.proofs.row.row_length.Goals as goal

pub bounds-columns-i : goal.bounds-columns-i
bounds-columns-i c = in_columns c.args.columns.now c.args.values.now c.loop-i.i c.requires c.loop-i-test.true

pub value_length-length-requires : goal.value_length-length-requires
value_length-length-requires c =
    fits_at (map column_of c.args.columns.now) (map value_of c.args.values.now) c.loop-i.i _ _ c.requires
    (column_at c.args.columns.now c.loop-i.i c.index-columns-i.result (in_columns c.args.columns.now c.args.values.now c.loop-i.i c.requires c.loop-i-test.true) c.index-columns-i.is)
    (value_at_place c.args.values.now c.loop-i.i Null c.loop-i-test.true)

pub returns-then-length-gt-MAX_ROW_BYTES : goal.returns-then-length-gt-MAX_ROW_BYTES
returns-then-length-gt-MAX_ROW_BYTES c =
    let step = step_length (map column_of c.args.columns.now) (map value_of c.args.values.now) c.loop-i.i _ _
    (column_at c.args.columns.now c.loop-i.i c.index-columns-i.result (in_columns c.args.columns.now c.args.values.now c.loop-i.i c.requires c.loop-i-test.true) c.index-columns-i.is)
    (value_at_place c.args.values.now c.loop-i.i Null c.loop-i-test.true) in
    omega (arith, step, c.loop-i.invariant.whole, c.value_length-length.ensures.exact)

pub loop-i-preserved : goal.loop-i-preserved
loop-i-preserved c =
    let step = step_length (map column_of c.args.columns.now) (map value_of c.args.values.now) c.loop-i.i _ _
    (column_at c.args.columns.now c.loop-i.i c.index-columns-i.result (in_columns c.args.columns.now c.args.values.now c.loop-i.i c.requires c.loop-i-test.true) c.index-columns-i.is)
    (value_at_place c.args.values.now c.loop-i.i Null c.loop-i-test.true) in
    record { short = c.if-length-gt-MAX_ROW_BYTES.false; whole = omega (arith, step, c.loop-i.invariant.whole, c.value_length-length.ensures.exact) }

pub returns : goal.returns
returns c =
    let end = end_length c.args.columns.now c.args.values.now c.loop-i.i c.requires c.loop-i-test.false in
    (omega (arith, end, c.loop-i.invariant.whole), c.loop-i.invariant.short)
