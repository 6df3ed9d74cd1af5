-- One place more.
use Rattle.std.proofs.Common.{map}
use Rattle.std.proofs.Common.{arith, ◌<◌, length}
use Rattle.std.proofs.lemmas.List.{length-map}
use Rattle.row_values.specs.Column.{column_of}
use Rattle.sql_predicates.proofs.Places.{places_go}
use Rattle.sql_predicates.proofs.selection.all_places.Goals as goal

pub loop-place-preserved : goal.loop-place-preserved
loop-place-preserved c =
    let cs = map column_of c.args.columns.now in
    let size = length-map c.args.columns.now column_of in
    let below : c.loop-place.place < length cs = omega arith in
    rw c.in_ok-push.ensures.items (places_go cs c.loop-place.place c.loop-place.places.items _ below c.loop-place.invariant)
