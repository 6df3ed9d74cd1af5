-- What is said of the key over the base's row.
use Rattle.std.proofs.Common.{List, ℕ, subst}
use Rattle.std.specs.Prelude.{option_map}
use Rattle.std.specs.Arc.{arc_value}
use Rattle.tables.specs.Tables.{Store, schema_of}
use Rattle.unit_changes.specs.UnitTable.{Fits}
use Rattle.unit_changes.specs.TableChanges.{table_of}
use Rattle.unit_changes.proofs.Telling.{row_found}
use Rattle.unit_changes.proofs.unit_view.row_under.Goals as goal

pub returns-in-Ok-clause-found : goal.returns-in-Ok-clause-found
returns-in-Ok-clause-found g c = λ told.
    let name : List ℕ = c.args.table.now in
    row_found (table_of c.in-Some.told.now) c.args.changes.now (g.V.TableView.store c.args.base.now) name c.args.key.now (option_map (λ bytes. bytes.items) c.in_ok-below.below) (option_map (λ bytes. bytes.items) c.in-Ok.row)
    c.in-Some.ensures (c.in_ok-below.ensures.good told)
    (subst (λ (s : Store). Fits c.in-Some.told.now.is_new (arc_value c.in-Some.told.now.schema) (schema_of s name)) c.in_ok-below.ensures.store (c.in_ok-fit.ensures.fits told))
    c.in-Ok.ensures.key (c.in_ok-below.ensures.found told) c.in-Ok.ensures.row
