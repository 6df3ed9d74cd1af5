-- What is said of the table over the base's rows.
use Rattle.std.proofs.Common.{List, ℕ, subst}
use Rattle.std.specs.Arc.{arc_value}
use Rattle.tables.specs.Tables.{Store, schema_of}
use Rattle.unit_changes.specs.UnitTable.{Fits}
use Rattle.unit_changes.specs.TableChanges.{table_of}
use Rattle.unit_changes.proofs.Turning.{TurnLaws, rows_found}
use Rattle.unit_changes.proofs.unit_view.rows_under.Goals as goal

pub returns-in-Ok-clause-rows : goal.returns-in-Ok-clause-rows
returns-in-Ok-clause-rows g c = λ told.
    let name : List ℕ = c.args.table.now in
    let laws : TurnLaws = record { change = c.changes_and_rows_in_turn.ensures.change; row = c.changes_and_rows_in_turn.ensures.row; both = c.changes_and_rows_in_turn.ensures.both } in
    rows_found laws c.forms_keep_order.ensures.keys c.stores_hold_tables.ensures.tables (table_of c.in-Some.told.now) c.args.changes.now (g.V.TableView.store c.args.base.now) name c.in_ok-below.below c.in-Ok.rows
    c.in-Some.ensures (c.in_ok-below.ensures.good told)
    (subst (λ (s : Store). Fits c.in-Some.told.now.is_new (arc_value c.in-Some.told.now.schema) (schema_of s name)) c.in_ok-below.ensures.store (c.in_ok-fit.ensures.fits told))
    (c.in_ok-below.ensures.rows told) c.in-Ok.ensures.order c.in-Ok.ensures.keys c.in-Ok.ensures.rows
