-- The table of the name is changed in its place, where there is one.
use Rattle.std.proofs.Common.{None, Some}
use Rattle.tables.specs.Tables.{put_row}
use Rattle.tables.proofs.PlainTables.{no_table_changed, on_err, on_ok, placed, table_changed, table_good, table_kept}
use Rattle.tables.proofs.plain_view.put.Goals as goal

pub put-requires : goal.put-requires
put-requires c =
    let is = placed c.args.name.now c.as_slice.result.now c.args.tables.now.items c.place_of.result (Some c.in-Some.i) c.as_slice.ensures.value c.place_of.ensures.place c.in-Some.is in
    table_good c.args.name.now c.args.tables.now.items c.in-Some.i c.index_mut.result.now is c.index_mut.ensures.value c.requires

pub returns-in-Some-clause-applied : goal.returns-in-Some-clause-applied
returns-in-Some-clause-applied c =
    let is = placed c.args.name.now c.as_slice.result.now c.args.tables.now.items c.place_of.result (Some c.in-Some.i) c.as_slice.ensures.value c.place_of.ensures.place c.in-Some.is in
    on_ok c.put.result (λ made. table_changed (put_row c.args.row.items) c.args.name.now c.args.tables.now.items c.in-Some.i c.index_mut.result.now c.put.new.self is c.index_mut.ensures.value c.put.ensures.name made) c.put.ensures.applied

pub returns-in-Some-clause-kept : goal.returns-in-Some-clause-kept
returns-in-Some-clause-kept c =
    let is = placed c.args.name.now c.as_slice.result.now c.args.tables.now.items c.place_of.result (Some c.in-Some.i) c.as_slice.ensures.value c.place_of.ensures.place c.in-Some.is in
    on_err c.put.result (λ same. table_kept c.args.name.now c.args.tables.now.items c.in-Some.i c.index_mut.result.now c.put.new.self is c.index_mut.ensures.value c.put.ensures.name same) c.put.ensures.kept

pub returns-in-None-clause-applied : goal.returns-in-None-clause-applied
returns-in-None-clause-applied c =
    no_table_changed (put_row c.args.row.items) c.args.name.now c.args.tables.now.items
    (placed c.args.name.now c.as_slice.result.now c.args.tables.now.items c.place_of.result None c.as_slice.ensures.value c.place_of.ensures.place c.in-None.is)
