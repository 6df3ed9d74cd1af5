-- The values of a place are read of both keys, and decide or tie.
use Rattle.std.proofs.Common.{ap, refl, sym, ◌∙◌, arith, length}
use Rattle.row_values.specs.Value.{value_of}
use Rattle.row_values.specs.Column.{column_of}
use Rattle.row_values.specs.Schema.{key_columns}
use Rattle.row_values.specs.Key.{key_values}
use Rattle.row_values.proofs.Keys.{key_count}
use Rattle.row_values.proofs.ReadSteps.{next_read, reads_there, values_count}
use Rattle.row_values.proofs.KeyOrder.{key_read, order_equal, order_goes_on, order_greater, order_less}
use Rattle.row_values.proofs.key.compare_keys.Goals as goal

pub loop-i-init : goal.loop-i-init
loop-i-init c = record {
  first = key_read c.args.schema.now c.args.a.now c.requires.first;
  second = key_read c.args.schema.now c.args.b.now c.requires.second;
  order = refl;
}

pub take_value-requires : goal.take_value-requires
take_value-requires c = reads_there (key_columns c.args.schema.now) (key_values c.args.schema.now c.args.a.now) c.loop-i.i (column_of c.key_column-column.result.now) c.loop-i.rest_a.now c.key_column-column.ensures c.loop-i.invariant.first

pub take_value-requires-in-loop-i : goal.take_value-requires-in-loop-i
take_value-requires-in-loop-i c = reads_there (key_columns c.args.schema.now) (key_values c.args.schema.now c.args.b.now) c.loop-i.i (column_of c.key_column-column.result.now) c.loop-i.rest_b.now c.key_column-column.ensures c.loop-i.invariant.second

pub returns-in-Less : goal.returns-in-Less
returns-in-Less c =
    let one = next_read (key_columns c.args.schema.now) (key_values c.args.schema.now c.args.a.now) c.loop-i.i (column_of c.key_column-column.result.now) c.loop-i.rest_a.now (value_of c.take_value.result.0, c.take_value.result.1.now) c.key_column-column.ensures
    c.take_value.ensures c.loop-i.invariant.first in
    let two = next_read (key_columns c.args.schema.now) (key_values c.args.schema.now c.args.b.now) c.loop-i.i (column_of c.key_column-column.result.now) c.loop-i.rest_b.now (value_of c.take_value-in-loop-i.result.0, c.take_value-in-loop-i.result.1.now) c.key_column-column.ensures
    c.take_value-in-loop-i.ensures c.loop-i.invariant.second in
    order_less c.args.schema.now c.args.a.now c.args.b.now c.loop-i.i _ _ one.0 two.0 (sym c.order.ensures ∙ c.in-Less.is) c.loop-i.invariant.order

pub returns-in-Greater : goal.returns-in-Greater
returns-in-Greater c =
    let one = next_read (key_columns c.args.schema.now) (key_values c.args.schema.now c.args.a.now) c.loop-i.i (column_of c.key_column-column.result.now) c.loop-i.rest_a.now (value_of c.take_value.result.0, c.take_value.result.1.now) c.key_column-column.ensures
    c.take_value.ensures c.loop-i.invariant.first in
    let two = next_read (key_columns c.args.schema.now) (key_values c.args.schema.now c.args.b.now) c.loop-i.i (column_of c.key_column-column.result.now) c.loop-i.rest_b.now (value_of c.take_value-in-loop-i.result.0, c.take_value-in-loop-i.result.1.now) c.key_column-column.ensures
    c.take_value-in-loop-i.ensures c.loop-i.invariant.second in
    order_greater c.args.schema.now c.args.a.now c.args.b.now c.loop-i.i _ _ one.0 two.0 (sym c.order.ensures ∙ c.in-Greater.is) c.loop-i.invariant.order

pub loop-i-preserved : goal.loop-i-preserved
loop-i-preserved c =
    let one = next_read (key_columns c.args.schema.now) (key_values c.args.schema.now c.args.a.now) c.loop-i.i (column_of c.key_column-column.result.now) c.loop-i.rest_a.now (value_of c.take_value.result.0, c.take_value.result.1.now) c.key_column-column.ensures
    c.take_value.ensures c.loop-i.invariant.first in
    let two = next_read (key_columns c.args.schema.now) (key_values c.args.schema.now c.args.b.now) c.loop-i.i (column_of c.key_column-column.result.now) c.loop-i.rest_b.now (value_of c.take_value-in-loop-i.result.0, c.take_value-in-loop-i.result.1.now) c.key_column-column.ensures
    c.take_value-in-loop-i.ensures c.loop-i.invariant.second in
    record {
      first = one.1;
      second = two.1;
      order = order_goes_on (key_values c.args.schema.now c.args.a.now) (key_values c.args.schema.now c.args.b.now) c.loop-i.i _ _ one.0 two.0 (sym c.order.ensures ∙ c.in-Equal.is) c.loop-i.invariant.order;
    }

pub returns : goal.returns
returns c =
    let count_a = values_count (key_columns c.args.schema.now) c.args.a.now (key_values c.args.schema.now c.args.a.now) (key_read c.args.schema.now c.args.a.now c.requires.first) in
    let count_b = values_count (key_columns c.args.schema.now) c.args.b.now (key_values c.args.schema.now c.args.b.now) (key_read c.args.schema.now c.args.b.now c.requires.second) in
    let count = key_count c.args.schema.now c.key-i-end.ensures.good in
    let size = ap length c.key-i-end.ensures.key in
    let end = c.loop-i-test.false in
    order_equal c.args.schema.now c.args.a.now c.args.b.now c.loop-i.i (λ i. (c.type_inv.a i).fits) (λ i. (c.type_inv.b i).fits) c.requires.first c.requires.second (omega arith) (omega arith) c.loop-i.invariant.order
