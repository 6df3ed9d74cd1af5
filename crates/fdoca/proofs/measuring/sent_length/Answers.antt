use Rattle.std.proofs.Common.{◌≡◌, ◌∙◌, ℕ, List, Some, ap, arith, length, map, sym, true}
use Rattle.std.specs.List.{slice_get}
use Rattle.std.proofs.lemmas.Option.{slice_get-get_or}
use Rattle.row_values.specs.Value.{Value}
use Rattle.row_values.specs.Column.{column_of}
use Rattle.row_values.specs.Row.{all_fit, row_bytes}
use Rattle.fdoca.proofs.Walking.{Cuts, column_at, counted_step, cuts, place_within}
use Rattle.fdoca.proofs.measuring.sent_length.Goals as goal

pub overflow_add-length : goal.overflow_add-length
overflow_add-length c =
    let rest = c.from_place.ensures.shorter c.loop-i.invariant.shorter in
    omega (arith, rest, c.split_value.ensures.shorter, c.sent_of.ensures.shorter, c.requires.short, c.requires.few, c.loop-i.invariant.small, c.loop-i-test.true)

pub loop-i-preserved : goal.loop-i-preserved
loop-i-preserved c =
    let place = c.from-place.result in
    let at : slice_get c.args.places.now c.loop-i.i ≡ Some place = slice_get-get_or c.args.places.now c.loop-i.i 0 c.loop-i-test.true ∙ ap (λ (n : ℕ). Some n) (sym c.from-place.ensures) in
    let within = place_within (length c.args.columns.now) c.args.places.now c.loop-i.i place c.requires.within at in
    let there = column_at c.args.columns.now place c.index-columns-place.result within c.index-columns-place.is in
    let columns = map column_of c.args.columns.now in
    let rest = c.from_place.ensures.shorter c.loop-i.invariant.shorter in
    let cut : (values : List Value) → all_fit columns values ≡ true → c.args.row.now ≡ row_bytes columns values
    → Cuts columns values place (column_of c.index-columns-place.result) c.split_value.result.0.now c.split_value.result.1.now = λ values fit whole.
    cuts columns values place (column_of c.index-columns-place.result) c.from_place.result.now c.split_value.result.0.now c.split_value.result.1.now fit there
    (c.from_place.ensures.there values fit whole (c.loop-i.invariant.walked values fit whole)) c.split_value.ensures.cut in
    record {
      small = omega (arith, rest, c.split_value.ensures.shorter, c.sent_of.ensures.shorter, c.requires.short, c.loop-i.invariant.small);
      shorter = omega (arith, rest, c.split_value.ensures.left);
      within = omega (arith, within);
      walked = λ values fit whole. (cut values fit whole).back_is;
      counted = λ values fit whole.
          let k = cut values fit whole in
          counted_step columns values c.args.places.now c.loop-i.i place (column_of c.index-columns-place.result) k.value c.loop-i.length c.sent_of.result.now _
          at there k.here (c.sent_of.ensures.sent k.value k.fit k.front_is) (c.loop-i.invariant.counted values fit whole);
    }
