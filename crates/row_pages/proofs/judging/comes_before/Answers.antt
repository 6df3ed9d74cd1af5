-- The values at a place decide, or those behind it do.
use Rattle.std.proofs.Common.{◌∙◌, Equal, Greater, Less, refl, sym}
use Rattle.row_values.specs.RowView.{row_in, schema_in}
use Rattle.row_values.specs.Value.{value_of}
use Rattle.row_pages.proofs.Comparing.{both_at, end_as, first_differs, fit_as, good_as, is_column, is_column_as, none_differs, place_at, value_as}
use Rattle.row_pages.proofs.judging.comes_before.Goals as goal

pub column-requires : goal.column-requires
column-requires c =
    let schema = schema_in c.args.second.now in let s = c.schema.result.now in
    let good = good_as schema s c.schema.ensures c.key-place-items.ensures.good in
    let at = place_at schema s c.key-place-items.result.now c.loop-place.place-index c.from-place.result c.schema.ensures c.key-place-items.ensures.key c.loop-place-test.true c.from-place.ensures in
    is_column_as schema (schema_in c.args.first.now) c.from-place.result c.requires (is_column schema c.loop-place.place-index c.from-place.result good at)

pub column-requires-in-loop-place : goal.column-requires-in-loop-place
column-requires-in-loop-place c =
    let schema = schema_in c.args.second.now in let s = c.schema.result.now in
    let good = good_as schema s c.schema.ensures c.key-place-items.ensures.good in
    let at = place_at schema s c.key-place-items.result.now c.loop-place.place-index c.from-place.result c.schema.ensures c.key-place-items.ensures.key c.loop-place-test.true c.from-place.ensures in
    is_column schema c.loop-place.place-index c.from-place.result good at

pub returns-in-Less : goal.returns-in-Less
returns-in-Less c =
    let schema = schema_in c.args.second.now in let s = c.schema.result.now in let f = schema_in c.args.first.now in let a = row_in c.args.first.now in
    let good = good_as schema s c.schema.ensures c.key-place-items.ensures.good in
    let at = place_at schema s c.key-place-items.result.now c.loop-place.place-index c.from-place.result c.schema.ensures c.key-place-items.ensures.key c.loop-place-test.true c.from-place.ensures in
    first_differs schema a (row_in c.args.second.now) good (fit_as schema f a c.requires c.args.first.now.written.0) c.args.second.now.written.0 c.loop-place.place-index c.from-place.result (value_of c.column.result) (value_of c.column-in-loop-place.result) Less
    at (value_as schema f a c.from-place.result (value_of c.column.result) c.requires c.column.ensures.value) c.column-in-loop-place.ensures.value (sym c.order.ensures ∙ c.in-Less.is) (λ p. refl) c.loop-place.invariant

pub returns-in-Greater : goal.returns-in-Greater
returns-in-Greater c =
    let schema = schema_in c.args.second.now in let s = c.schema.result.now in let f = schema_in c.args.first.now in let a = row_in c.args.first.now in
    let good = good_as schema s c.schema.ensures c.key-place-items.ensures.good in
    let at = place_at schema s c.key-place-items.result.now c.loop-place.place-index c.from-place.result c.schema.ensures c.key-place-items.ensures.key c.loop-place-test.true c.from-place.ensures in
    first_differs schema a (row_in c.args.second.now) good (fit_as schema f a c.requires c.args.first.now.written.0) c.args.second.now.written.0 c.loop-place.place-index c.from-place.result (value_of c.column.result) (value_of c.column-in-loop-place.result) Greater
    at (value_as schema f a c.from-place.result (value_of c.column.result) c.requires c.column.ensures.value) c.column-in-loop-place.ensures.value (sym c.order.ensures ∙ c.in-Greater.is) (λ p. refl) c.loop-place.invariant

pub loop-place-preserved : goal.loop-place-preserved
loop-place-preserved c =
    let schema = schema_in c.args.second.now in let s = c.schema.result.now in let f = schema_in c.args.first.now in let a = row_in c.args.first.now in
    let good = good_as schema s c.schema.ensures c.key-place-items.ensures.good in
    let at = place_at schema s c.key-place-items.result.now c.loop-place.place-index c.from-place.result c.schema.ensures c.key-place-items.ensures.key c.loop-place-test.true c.from-place.ensures in
    both_at schema a (row_in c.args.second.now) good (fit_as schema f a c.requires c.args.first.now.written.0) c.args.second.now.written.0 c.loop-place.place-index c.from-place.result (value_of c.column.result) (value_of c.column-in-loop-place.result) Equal
    at (value_as schema f a c.from-place.result (value_of c.column.result) c.requires c.column.ensures.value) c.column-in-loop-place.ensures.value (sym c.order.ensures ∙ c.in-Equal.is) c.loop-place.invariant

pub returns : goal.returns
returns c =
    let schema = schema_in c.args.second.now in let s = c.schema.result.now in let f = schema_in c.args.first.now in let a = row_in c.args.first.now in
    none_differs schema a (row_in c.args.second.now) (good_as schema s c.schema.ensures c.key-place-items.ensures.good) (fit_as schema f a c.requires c.args.first.now.written.0) c.args.second.now.written.0 c.loop-place.place-index
    (end_as schema s c.key-place-items.result.now c.loop-place.place-index c.schema.ensures c.key-place-items.ensures.key c.loop-place-test.false) c.loop-place.invariant
