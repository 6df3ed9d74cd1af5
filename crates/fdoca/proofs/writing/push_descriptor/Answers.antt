use Rattle.std.proofs.Common.{◌≡◌, ◌∙◌, ℕ, Some, ap, arith, drop, length, map, refl, sym}
use Rattle.std.specs.List.{flat_map, slice_get}
use Rattle.std.proofs.lemmas.Option.{slice_get-get_or}
use Rattle.row_values.specs.Column.{column_of}
use Rattle.row_values.specs.Schema.{picked}
use Rattle.fdoca.specs.Writing.{answer_descriptor, field_bytes}
use Rattle.fdoca.proofs.Walking.{closing_room, column_at, described_first, described_room, described_step, kept_first, kept_step, longer_first, longer_step, on_err, opening_room, place_within, short, short_err}
use Rattle.fdoca.proofs.writing.push_descriptor.Goals as goal

pub loop-i-init : goal.loop-i-init
loop-i-init c = record {
  kept = kept_first c.args.out.now.items _ _ c.in_ok-extend_from_slice.ensures.items;
  longer = longer_first c.args.out.now.items _ _ c.in_ok-extend_from_slice.ensures.items;
  described = described_first c.args.columns.now c.args.places.now c.args.out.now.items _ c.requires.within c.in_ok-extend_from_slice.ensures.items;
  capacity = c.in_ok-extend_from_slice.ensures.capacity;
}

pub loop-i-preserved : goal.loop-i-preserved
loop-i-preserved c =
    let place = c.from-place.result in
    let at : slice_get c.args.places.now c.loop-i.i ≡ Some place = slice_get-get_or c.args.places.now c.loop-i.i 0 c.loop-i-test.true ∙ ap (λ (n : ℕ). Some n) (sym c.from-place.ensures) in
    let within = place_within (length c.args.columns.now) c.args.places.now c.loop-i.i place c.requires.within at in
    record {
      kept = kept_step c.args.out.now.items c.loop-i.out.items _ _ c.loop-i.invariant.kept c.loop-i.invariant.longer c.in_ok-extend_from_slice-2.ensures.items;
      longer = longer_step c.args.out.now.items c.loop-i.out.items _ _ c.loop-i.invariant.longer c.in_ok-extend_from_slice-2.ensures.items;
      described =
          described_step (map column_of c.args.columns.now) c.args.places.now c.loop-i.i place (column_of c.index-columns-place.result) c.loop-i.out.items _ c.field_bytes.result _ at
          (column_at c.args.columns.now place c.index-columns-place.result within c.index-columns-place.is) c.field_bytes.ensures c.in_ok-extend_from_slice-2.ensures.items c.loop-i.invariant.described;
      capacity = omega (arith, c.loop-i.invariant.capacity, c.in_ok-extend_from_slice-2.ensures.capacity);
    }

pub returns-in_err-extend_from_slice-clause-full : goal.returns-in_err-extend_from_slice-clause-full
returns-in_err-extend_from_slice-clause-full c =
    let columns = picked (map column_of c.args.columns.now) c.args.places.now in
    on_err _ (short_err c.args.out.now c.args.out.now 3 (answer_descriptor columns) (answer_descriptor columns) refl (opening_room columns) (omega arith) c.in_err-extend_from_slice.ensures.full)

pub returns-in_err-extend_from_slice-2-clause-full : goal.returns-in_err-extend_from_slice-2-clause-full
returns-in_err-extend_from_slice-2-clause-full c =
    let place = c.from-place.result in
    let at : slice_get c.args.places.now c.loop-i.i ≡ Some place = slice_get-get_or c.args.places.now c.loop-i.i 0 c.loop-i-test.true ∙ ap (λ (n : ℕ). Some n) (sym c.from-place.ensures) in
    let within = place_within (length c.args.columns.now) c.args.places.now c.loop-i.i place c.requires.within at in
    on_err _ (short_err c.args.out.now c.loop-i.out _ _ _ c.loop-i.invariant.described
    (described_room (map column_of c.args.columns.now) c.args.places.now c.loop-i.i place (column_of c.index-columns-place.result) c.field_bytes.result at
    (column_at c.args.columns.now place c.index-columns-place.result within c.index-columns-place.is) c.field_bytes.ensures)
    c.loop-i.invariant.capacity c.in_err-extend_from_slice-2.ensures.full)

pub returns-clause-full : goal.returns-clause-full
returns-clause-full c =
    short _ c.args.out.now c.loop-i.out _ _ _ c.loop-i.invariant.described (closing_room (flat_map field_bytes (picked (map column_of c.args.columns.now) (drop c.loop-i.i c.args.places.now))))
    c.loop-i.invariant.capacity c.extend_from_slice-2.ensures.full
