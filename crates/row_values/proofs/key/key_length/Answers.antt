-- Each key column's value fits it, and its bytes are the next of the key.
use Rattle.std.proofs.Common.{ap, arith, map, length}
use Rattle.row_values.specs.declared.value.Value.TheVariants.{Null}
use Rattle.row_values.specs.Value.{value_of}
use Rattle.row_values.specs.Schema.{key_columns}
use Rattle.row_values.proofs.Keys.{key_short}
use Rattle.row_values.proofs.RowKeys.{key_ended, key_in_values}
use Rattle.row_values.proofs.RowSteps.{value_at_place, fits_at, step_length}
use Rattle.row_values.proofs.key.key_length.Goals as goal

pub bounds-values-i : goal.bounds-values-i
bounds-values-i c = key_in_values c.args.schema.now c.args.values.now c.key-i-end.result.now c.loop-i.i c.key-i-end.ensures.good c.key-i-end.ensures.key c.requires c.loop-i-test.true

pub value_length-length-requires : goal.value_length-length-requires
value_length-length-requires c =
    let lt = key_in_values c.args.schema.now c.args.values.now c.key-i-end.result.now c.loop-i.i c.key-i-end.ensures.good c.key-i-end.ensures.key c.requires c.loop-i-test.true in
    fits_at (key_columns c.args.schema.now) (map value_of c.args.values.now) c.loop-i.i _ _ c.requires c.key_column.ensures (value_at_place c.args.values.now c.loop-i.i Null lt)

pub overflow_add-length : goal.overflow_add-length
overflow_add-length c =
    let lt = key_in_values c.args.schema.now c.args.values.now c.key-i-end.result.now c.loop-i.i c.key-i-end.ensures.good c.key-i-end.ensures.key c.requires c.loop-i-test.true in
    let step = step_length (key_columns c.args.schema.now) (map value_of c.args.values.now) c.loop-i.i _ _ c.key_column.ensures (value_at_place c.args.values.now c.loop-i.i Null lt) in
    let most = key_short c.args.schema.now (map value_of c.args.values.now) c.key-i-end.ensures.good c.requires in
    omega (arith, step, most, c.loop-i.invariant, c.value_length-length.ensures.exact)

pub loop-i-preserved : goal.loop-i-preserved
loop-i-preserved c =
    let lt = key_in_values c.args.schema.now c.args.values.now c.key-i-end.result.now c.loop-i.i c.key-i-end.ensures.good c.key-i-end.ensures.key c.requires c.loop-i-test.true in
    let step = step_length (key_columns c.args.schema.now) (map value_of c.args.values.now) c.loop-i.i _ _ c.key_column.ensures (value_at_place c.args.values.now c.loop-i.i Null lt) in
    omega (arith, step, c.loop-i.invariant, c.value_length-length.ensures.exact)

pub returns : goal.returns
returns c =
    let end = ap length (key_ended c.args.schema.now c.args.values.now c.key-i-end.result.now c.loop-i.i c.key-i-end.ensures.good c.key-i-end.ensures.key c.requires c.loop-i-test.false) in
    omega (arith, end, c.loop-i.invariant)
