-- The table of the name is changed in its place, where there is one.
use Rattle.std.proofs.Common.{None, Some}
use Rattle.tables.specs.Tables.{remove_row}
use Rattle.tables.proofs.PlainTables.{no_table_changed, placed, table_changed}
use Rattle.tables.proofs.plain_view.remove.Goals as goal

pub returns-in-Some : goal.returns-in-Some
returns-in-Some c =
    let is = placed c.args.name.now c.as_slice.result.now c.args.tables.now.items c.place_of.result (Some c.in-Some.i) c.as_slice.ensures.value c.place_of.ensures.place c.in-Some.is in
    table_changed (remove_row c.args.key.now) c.args.name.now c.args.tables.now.items c.in-Some.i c.index_mut.result.now c.remove.new.self is c.index_mut.ensures.value c.remove.ensures.name c.remove.ensures.removed

pub returns-in_default : goal.returns-in_default
returns-in_default c =
    no_table_changed (remove_row c.args.key.now) c.args.name.now c.args.tables.now.items
    (placed c.args.name.now c.as_slice.result.now c.args.tables.now.items c.place_of.result None c.as_slice.ensures.value c.place_of.ensures.place c.in_default.is)
