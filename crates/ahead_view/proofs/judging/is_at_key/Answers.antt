-- The values at a place differ, or those behind it decide.
use Rattle.std.proofs.Common.{◌∙◌, ap, sym}
use Rattle.std.specs.Ordering.{is_ne}
use Rattle.row_values.specs.Key.{is_key}
use Rattle.row_values.specs.KeyValues.{values_left}
use Rattle.row_values.specs.RowView.{row_in, schema_in}
use Rattle.row_values.specs.Schema.{Schema}
use Rattle.row_values.specs.Value.{value_of}
use Rattle.row_pages.proofs.Comparing.{end_as, good_as, is_column, place_at, within_as}
use Rattle.ahead_view.proofs.Comparing.{another_key, more_to_come, no_key, same_key, same_so_far}
use Rattle.ahead_view.proofs.judging.is_at_key.Goals as goal

pub returns-then-not-is_key : goal.returns-then-not-is_key
returns-then-not-is_key c =
    no_key (schema_in c.args.row.now) (row_in c.args.row.now) c.args.key.now (good_as (schema_in c.args.row.now) c.schema-schema.result.now c.schema-schema.ensures c.key-places.ensures.good) c.args.row.now.written.0 (ap (λ (t : Schema). is_key t c.args.key.now) (sym c.schema-schema.ensures) ∙ sym c.is_key.ensures ∙ c.if-not-is_key.true)

pub returns-in_default : goal.returns-in_default
returns-in_default c =
    let schema = schema_in c.args.row.now in let s = c.schema-schema.result.now in
    let good = good_as schema s c.schema-schema.ensures c.key-places.ensures.good in
    let is = ap (λ (t : Schema). is_key t c.args.key.now) (sym c.schema-schema.ensures) ∙ sym c.is_key.ensures ∙ c.if-not-is_key.false in
    absurd (more_to_come schema (row_in c.args.row.now) c.args.key.now good c.args.row.now.written.0 is c.loop-place.place-index (values_left c.loop-place.values)
    (within_as schema s c.key-places.result.now c.loop-place.place-index c.schema-schema.ensures c.key-places.ensures.key c.loop-place-test.true) c.loop-place.invariant.left c.in_default.ensures.steps.0)

pub column-requires : goal.column-requires
column-requires c =
    let schema = schema_in c.args.row.now in let s = c.schema-schema.result.now in
    let good = good_as schema s c.schema-schema.ensures c.key-places.ensures.good in
    let at = place_at schema s c.key-places.result.now c.loop-place.place-index c.from.result c.schema-schema.ensures c.key-places.ensures.key c.loop-place-test.true c.from.ensures in
    is_column schema c.loop-place.place-index c.from.result good at

pub returns-then-is_ne : goal.returns-then-is_ne
returns-then-is_ne c =
    let schema = schema_in c.args.row.now in let s = c.schema-schema.result.now in
    let good = good_as schema s c.schema-schema.ensures c.key-places.ensures.good in
    let at = place_at schema s c.key-places.result.now c.loop-place.place-index c.from.result c.schema-schema.ensures c.key-places.ensures.key c.loop-place-test.true c.from.ensures in
    let is = ap (λ (t : Schema). is_key t c.args.key.now) (sym c.schema-schema.ensures) ∙ sym c.is_key.ensures ∙ c.if-not-is_key.false in
    another_key schema (row_in c.args.row.now) c.args.key.now good c.args.row.now.written.0 is c.loop-place.place-index c.from.result (values_left c.loop-place.values) (value_of c.column.result) (value_of c.in-Some.value) (values_left c.next.new.self)
    at c.column.ensures.value c.loop-place.invariant.left c.in-Some.ensures.steps (ap is_ne (sym c.order.ensures) ∙ sym c.is_ne.ensures ∙ c.if-is_ne.true) c.loop-place.invariant.order

pub loop-place-preserved : goal.loop-place-preserved
loop-place-preserved c =
    let schema = schema_in c.args.row.now in let s = c.schema-schema.result.now in
    let good = good_as schema s c.schema-schema.ensures c.key-places.ensures.good in
    let at = place_at schema s c.key-places.result.now c.loop-place.place-index c.from.result c.schema-schema.ensures c.key-places.ensures.key c.loop-place-test.true c.from.ensures in
    let is = ap (λ (t : Schema). is_key t c.args.key.now) (sym c.schema-schema.ensures) ∙ sym c.is_key.ensures ∙ c.if-not-is_key.false in
    let so =
    same_so_far schema (row_in c.args.row.now) c.args.key.now good c.args.row.now.written.0 is c.loop-place.place-index c.from.result (values_left c.loop-place.values) (value_of c.column.result) (value_of c.in-Some.value) (values_left c.next.new.self)
    at c.column.ensures.value c.loop-place.invariant.left c.in-Some.ensures.steps (ap is_ne (sym c.order.ensures) ∙ sym c.is_ne.ensures ∙ c.if-is_ne.false) c.loop-place.invariant.order in
    record { left = so.0; order = so.1 }

pub returns : goal.returns
returns c =
    let schema = schema_in c.args.row.now in let s = c.schema-schema.result.now in
    let good = good_as schema s c.schema-schema.ensures c.key-places.ensures.good in
    let is = ap (λ (t : Schema). is_key t c.args.key.now) (sym c.schema-schema.ensures) ∙ sym c.is_key.ensures ∙ c.if-not-is_key.false in
    same_key schema (row_in c.args.row.now) c.args.key.now good c.args.row.now.written.0 is c.loop-place.place-index (λ i. (c.type_inv.key i).fits)
    (end_as schema s c.key-places.result.now c.loop-place.place-index c.schema-schema.ensures c.key-places.ensures.key c.loop-place-test.false) c.loop-place.invariant.order
