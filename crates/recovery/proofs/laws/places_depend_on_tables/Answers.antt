use Rattle.recovery.proofs.Keeping.{changes_keep_tables, places_go_on, rows_keep_places, tables_give_places}
use Rattle.recovery.proofs.laws.places_depend_on_tables.Goals as goal

pub returns : goal.returns
returns c =
    let created = c.changes_are_local.ensures.created in
    let puts = c.changes_are_local.ensures.put in
    let removed = c.changes_are_local.ensures.removed in
    let names = c.changes_make_tables.ensures.names in
    record {
      go_on = places_go_on;
      rows = rows_keep_places created puts removed names;
      tables = tables_give_places created puts removed names;
      kept = changes_keep_tables created puts removed names;
    }
