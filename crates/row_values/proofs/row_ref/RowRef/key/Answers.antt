-- Each value is the one at its place of the key.
use Rattle.std.proofs.Common.{◌≡◌, List, IsTrue, IfOk, ap, refl, sym, subst, ◌∙◌, arith, length}
use Rattle.std.proofs.lemmas.List.{length-set}
use Rattle.row_values.specs.Value.{Value, value_of}
use Rattle.row_values.specs.Schema.{key_columns, picked}
use Rattle.row_values.specs.Row.{all_fit, row_bytes, values_in}
use Rattle.row_values.proofs.Gathered.{gathered}
use Rattle.row_values.proofs.Keys.{key_few, key_places, place_within}
use Rattle.row_values.proofs.RowKeys.{gathered_all, key_fits, key_place, key_value_at}
use Rattle.row_values.proofs.row_ref.RowRef.key.Goals as goal

pub column-requires : goal.column-requires
column-requires c =
    let schema = c.args.self.now.schema.now in
    let lt = c.loop-i-test.true in
    let same = ap length (c.key.ensures.key ∙ sym c.key-count.ensures.key) in
    let at = key_place schema c.key.result.now c.loop-i.i c.from-place.result c.key.ensures.key (omega arith) c.from-place.ensures in
    place_within schema.columns schema.key c.loop-i.i c.from-place.result (key_places schema c.key.ensures.good) at (length schema.columns) refl

pub loop-i-preserved : goal.loop-i-preserved
loop-i-preserved c =
    let schema = c.args.self.now.schema.now in
    let values = values_in schema c.args.self.now.bytes.now in
    let lt = c.loop-i-test.true in
    let same = ap length (c.key.ensures.key ∙ sym c.key-count.ensures.key) in
    let size = ap length c.key.ensures.key in
    let few = key_few schema c.key.ensures.good in
    let room = c.loop-i.invariant.room in
    let at = key_place schema c.key.result.now c.loop-i.i c.from-place.result c.key.ensures.key (omega arith) c.from-place.ensures in
    let value = key_value_at schema values c.loop-i.i c.from-place.result (value_of c.column.result) c.key.ensures.good c.args.self.now.written.0 at c.column.ensures.value in
    record {
      room = length-set c.loop-i.values c.loop-i.i c.column.result ∙ room;
      gathered = gathered value_of c.loop-i.values (picked values schema.key) c.loop-i.i c.column.result (omega arith) value c.loop-i.invariant.gathered;
    }

pub encode_key-requires : goal.encode_key-requires
encode_key-requires c =
    let schema = c.args.self.now.schema.now in
    let values = values_in schema c.args.self.now.bytes.now in
    subst (λ (vs : List Value). IsTrue (all_fit (key_columns schema) vs))
    (sym (gathered_all schema values c.loop-i.values c.key-count.result.now c.loop-i.i c.key-count.ensures.good c.args.self.now.written.0 c.key-count.ensures.key c.loop-i.auto.i-end c.loop-i-test.false c.loop-i.invariant.gathered))
    (key_fits schema values c.key-count.ensures.good c.args.self.now.written.0)

pub returns-clause-key : goal.returns-clause-key
returns-clause-key c =
    let schema = c.args.self.now.schema.now in
    let values = values_in schema c.args.self.now.bytes.now in
    subst (λ (vs : List Value). IfOk c.encode_key.result (λ key. key.items ≡ row_bytes (key_columns schema) vs))
    (gathered_all schema values c.loop-i.values c.key-count.result.now c.loop-i.i c.key-count.ensures.good c.args.self.now.written.0 c.key-count.ensures.key c.loop-i.auto.i-end c.loop-i-test.false c.loop-i.invariant.gathered)
    c.encode_key.ensures.key
