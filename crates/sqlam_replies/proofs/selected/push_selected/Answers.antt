use Rattle.std.proofs.Common.{◌≤◌, arith, length, map, nat_le}
use Rattle.std.specs.Prelude.{vec_capacity}
use Rattle.row_values.specs.Column.{Column, column_of}
use Rattle.row_values.specs.Schema.{picked}
use Rattle.row_values.proofs.Keys.{length-picked}
use Rattle.sqlam_replies.specs.Sqldard.{column_group}
use Rattle.sqlam_replies.proofs.Appending.{all_at, room, shown_at, step, whole}
use Rattle.sqlam_replies.proofs.Picks.{column_picked, place_within, read_at}
use Rattle.sqlam_replies.proofs.Sizes.{kept_all, kept_past, late}
use Rattle.sqlam_replies.proofs.selected.push_selected.Goals as goal

pub bounds-columns-place : goal.bounds-columns-place
bounds-columns-place c =
    let at = read_at c.args.places.now c.loop-i.i c.from-place.result c.loop-i-test.true c.from-place.ensures in
    place_within c.args.columns.now c.args.places.now c.loop-i.i c.from-place.result c.requires.places at

pub push_column-requires : goal.push_column-requires
push_column-requires c =
    let at = read_at c.args.places.now c.loop-i.i c.from-place.result c.loop-i-test.true c.from-place.ensures in
    let lt = place_within c.args.columns.now c.args.places.now c.loop-i.i c.from-place.result c.requires.places at in
    let here = shown_at column_of c.args.columns.now c.from-place.result c.index-columns-place.result lt c.index-columns-place.is in
    all_at (λ (column : Column). nat_le (length column.name) 30) (map column_of c.args.columns.now) c.from-place.result (column_of c.index-columns-place.result) c.requires.names here

pub returns-in_err-push_column-clause-full : goal.returns-in_err-push_column-clause-full
returns-in_err-push_column-clause-full c =
    let at = read_at c.args.places.now c.loop-i.i c.from-place.result c.loop-i-test.true c.from-place.ensures in
    let lt = place_within c.args.columns.now c.args.places.now c.loop-i.i c.from-place.result c.requires.places at in
    let here = column_picked c.args.columns.now c.args.places.now c.loop-i.i c.from-place.result c.index-columns-place.result c.requires.places at lt c.index-columns-place.is in
    let space = room (column_group c.args.unicode) (picked (map column_of c.args.columns.now) c.args.places.now) c.loop-i.i (column_of c.index-columns-place.result) c.args.out.now.items c.loop-i.out.items here c.loop-i.invariant.0 in
    late _ c.args.out.now c.loop-i.out _ _ space c.loop-i.invariant.1 c.in_err-push_column.ensures.full

pub loop-i-preserved : goal.loop-i-preserved
loop-i-preserved c =
    let at = read_at c.args.places.now c.loop-i.i c.from-place.result c.loop-i-test.true c.from-place.ensures in
    let lt = place_within c.args.columns.now c.args.places.now c.loop-i.i c.from-place.result c.requires.places at in
    let here = column_picked c.args.columns.now c.args.places.now c.loop-i.i c.from-place.result c.index-columns-place.result c.requires.places at lt c.index-columns-place.is in
    let more : vec_capacity c.args.out.now ≤ vec_capacity c.push_column.new.out = omega (arith, c.loop-i.invariant.1, c.in_ok-push_column.ensures.capacity) in
    (step (column_group c.args.unicode) (picked (map column_of c.args.columns.now) c.args.places.now) c.loop-i.i (column_of c.index-columns-place.result) c.args.out.now.items c.loop-i.out.items c.push_column.new.out.items here c.in_ok-push_column.ensures.ok c.loop-i.invariant.0, more)

pub returns-clause-ok : goal.returns-clause-ok
returns-clause-ok c =
    let size = length-picked (map column_of c.args.columns.now) c.args.places.now c.requires.places in
    let end : length (picked (map column_of c.args.columns.now) c.args.places.now) ≤ c.loop-i.i = omega (arith, size, c.loop-i-test.false) in
    whole (column_group c.args.unicode) (picked (map column_of c.args.columns.now) c.args.places.now) c.loop-i.i c.args.out.now.items c.loop-i.out.items end c.loop-i.invariant.0

pub returns-in_err-push_column-clause-kept : goal.returns-in_err-push_column-clause-kept
returns-in_err-push_column-clause-kept c = kept_past c.args.out.now c.loop-i.out _ c.loop-i.invariant.0.longer c.loop-i.invariant.0.kept c.in_err-push_column.ensures.kept

pub returns-clause-kept : goal.returns-clause-kept
returns-clause-kept c = kept_all c.args.out.now _ c.loop-i.invariant.0.kept
