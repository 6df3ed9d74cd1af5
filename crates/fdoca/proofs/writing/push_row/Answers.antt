use Rattle.std.proofs.Common.{◌≡◌, ◌∙◌, ◌<◌, ◌+◌, ℕ, List, Some, ap, arith, length, map, sym, true}
use Rattle.std.specs.List.{slice_get}
use Rattle.std.proofs.lemmas.Option.{slice_get-get_or}
use Rattle.std.specs.Prelude.{vec_capacity, vec_len}
use Rattle.row_values.specs.Value.{Value}
use Rattle.row_values.specs.Column.{column_of}
use Rattle.row_values.specs.Schema.{picked}
use Rattle.row_values.specs.Row.{all_fit, row_bytes}
use Rattle.fdoca.specs.Writing.{answer_row}
use Rattle.fdoca.proofs.Walking.{Cuts, column_at, cuts, kept_step, longer_step, on_err, place_within, sent_room, sent_step, short_err}
use Rattle.fdoca.proofs.writing.push_row.Goals as goal

abbrev At : Type 0
At = goal.In_ok-extend_from_slice-2

place_at : (c : At) → slice_get c.args.places.now c.loop-i.i ≡ Some c.from-place.result
place_at c = slice_get-get_or c.args.places.now c.loop-i.i 0 c.loop-i-test.true ∙ ap (λ (n : ℕ). Some n) (sym c.from-place.ensures)

place_within_columns : (c : At) → c.from-place.result < length c.args.columns.now
place_within_columns c = place_within (length c.args.columns.now) c.args.places.now c.loop-i.i c.from-place.result c.requires.within (place_at c)

column_there : (c : At) → slice_get (map column_of c.args.columns.now) c.from-place.result ≡ Some (column_of c.index-columns-place.result)
column_there c = column_at c.args.columns.now c.from-place.result c.index-columns-place.result (place_within_columns c) c.index-columns-place.is

cut : (c : At) (values : List Value) → all_fit (map column_of c.args.columns.now) values ≡ true → c.args.row.now ≡ row_bytes (map column_of c.args.columns.now) values
    → Cuts (map column_of c.args.columns.now) values c.from-place.result (column_of c.index-columns-place.result) c.split_value.result.0.now c.split_value.result.1.now
cut c values fit whole =
    cuts (map column_of c.args.columns.now) values c.from-place.result (column_of c.index-columns-place.result) c.from_place.result.now c.split_value.result.0.now c.split_value.result.1.now fit (column_there c)
    (c.from_place.ensures.there values fit whole (c.loop-i.invariant.walked values fit whole)) c.split_value.ensures.cut

pub loop-i-preserved : goal.loop-i-preserved
loop-i-preserved c = record {
  kept = kept_step c.args.out.now.items c.loop-i.out.items _ _ c.loop-i.invariant.kept c.loop-i.invariant.longer c.in_ok-extend_from_slice-2.ensures.items;
  longer = longer_step c.args.out.now.items c.loop-i.out.items _ _ c.loop-i.invariant.longer c.in_ok-extend_from_slice-2.ensures.items;
  within = omega (arith, place_within_columns c);
  walked = λ values fit whole. (cut c values fit whole).back_is;
  sent = λ values fit whole.
      let k = cut c values fit whole in
      sent_step (map column_of c.args.columns.now) values c.args.places.now c.loop-i.i c.from-place.result (column_of c.index-columns-place.result) k.value c.loop-i.out.items _ c.sent_of.result.now _
      (place_at c) (column_there c) k.here (c.sent_of.ensures.sent k.value k.fit k.front_is) c.in_ok-extend_from_slice-2.ensures.items (c.loop-i.invariant.sent values fit whole);
  capacity = omega (arith, c.loop-i.invariant.capacity, c.in_ok-extend_from_slice-2.ensures.capacity);
}

pub returns-in_err-extend_from_slice-2-clause-full : goal.returns-in_err-extend_from_slice-2-clause-full
returns-in_err-extend_from_slice-2-clause-full c =
    let place = c.from-place.result in
    let at : slice_get c.args.places.now c.loop-i.i ≡ Some place = slice_get-get_or c.args.places.now c.loop-i.i 0 c.loop-i-test.true ∙ ap (λ (n : ℕ). Some n) (sym c.from-place.ensures) in
    let within = place_within (length c.args.columns.now) c.args.places.now c.loop-i.i place c.requires.within at in
    let there = column_at c.args.columns.now place c.index-columns-place.result within c.index-columns-place.is in
    let columns = map column_of c.args.columns.now in
    let full : (values : List Value) → all_fit columns values ≡ true → c.args.row.now ≡ row_bytes columns values
    → vec_capacity c.args.out.now < vec_len c.args.out.now + length (answer_row (picked columns c.args.places.now) (picked values c.args.places.now)) = λ values fit whole.
    let k = cuts (map column_of c.args.columns.now) values place (column_of c.index-columns-place.result) c.from_place.result.now c.split_value.result.0.now c.split_value.result.1.now fit there
    (c.from_place.ensures.there values fit whole (c.loop-i.invariant.walked values fit whole)) c.split_value.ensures.cut in
    short_err c.args.out.now c.loop-i.out _ _ _ (c.loop-i.invariant.sent values fit whole)
    (sent_room (map column_of c.args.columns.now) values c.args.places.now c.loop-i.i place (column_of c.index-columns-place.result) k.value c.sent_of.result.now at there k.here
    (c.sent_of.ensures.sent k.value k.fit k.front_is))
    c.loop-i.invariant.capacity c.in_err-extend_from_slice-2.ensures.full in
    on_err _ full
