use Rattle.std.proofs.Common.{◌<◌, ◌≤◌, arith, length, map, nat_le}
use Rattle.std.proofs.lemmas.List.{length-map}
use Rattle.std.specs.Prelude.{vec_capacity}
use Rattle.row_values.specs.Column.{Column, column_of}
use Rattle.sqlam_replies.specs.Sqldard.{column_group}
use Rattle.sqlam_replies.proofs.Appending.{all_at, room, shown_at, step, whole}
use Rattle.sqlam_replies.proofs.Sizes.{kept_all, kept_past, late}
use Rattle.sqlam_replies.proofs.sqlda.push_columns.Goals as goal

pub push_column-requires : goal.push_column-requires
push_column-requires c =
    let lt : c.loop-column.column-index < length c.args.columns.now = omega (arith, c.loop-column-test.true) in
    let here = shown_at column_of c.args.columns.now c.loop-column.column-index c.column-item.result lt c.column-item.is in
    all_at (λ (column : Column). nat_le (length column.name) 30) (map column_of c.args.columns.now) c.loop-column.column-index (column_of c.column-item.result) c.requires here

pub returns-in_err-push_column-clause-full : goal.returns-in_err-push_column-clause-full
returns-in_err-push_column-clause-full c =
    let lt : c.loop-column.column-index < length c.args.columns.now = omega (arith, c.loop-column-test.true) in
    let here = shown_at column_of c.args.columns.now c.loop-column.column-index c.column-item.result lt c.column-item.is in
    let space = room (column_group c.args.unicode) (map column_of c.args.columns.now) c.loop-column.column-index (column_of c.column-item.result) c.args.out.now.items c.loop-column.out.items here c.loop-column.invariant.0 in
    late _ c.args.out.now c.loop-column.out _ _ space c.loop-column.invariant.1 c.in_err-push_column.ensures.full

pub loop-column-preserved : goal.loop-column-preserved
loop-column-preserved c =
    let lt : c.loop-column.column-index < length c.args.columns.now = omega (arith, c.loop-column-test.true) in
    let here = shown_at column_of c.args.columns.now c.loop-column.column-index c.column-item.result lt c.column-item.is in
    let more : vec_capacity c.args.out.now ≤ vec_capacity c.push_column.new.out = omega (arith, c.loop-column.invariant.1, c.in_ok-push_column.ensures.capacity) in
    (step (column_group c.args.unicode) (map column_of c.args.columns.now) c.loop-column.column-index (column_of c.column-item.result) c.args.out.now.items c.loop-column.out.items c.push_column.new.out.items here c.in_ok-push_column.ensures.ok c.loop-column.invariant.0, more)

pub returns-in_err-push_column-clause-kept : goal.returns-in_err-push_column-clause-kept
returns-in_err-push_column-clause-kept c = kept_past c.args.out.now c.loop-column.out _ c.loop-column.invariant.0.longer c.loop-column.invariant.0.kept c.in_err-push_column.ensures.kept

pub returns-clause-ok : goal.returns-clause-ok
returns-clause-ok c =
    let end : length (map column_of c.args.columns.now) ≤ c.loop-column.column-index = omega (arith, length-map c.args.columns.now column_of, c.loop-column-test.false) in
    whole (column_group c.args.unicode) (map column_of c.args.columns.now) c.loop-column.column-index c.args.out.now.items c.loop-column.out.items end c.loop-column.invariant.0

pub returns-clause-kept : goal.returns-clause-kept
returns-clause-kept c = kept_all c.args.out.now _ c.loop-column.invariant.0.kept
