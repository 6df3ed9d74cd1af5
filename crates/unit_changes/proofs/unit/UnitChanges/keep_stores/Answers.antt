-- Each change keeps a store, and the schemas in it.
use Rattle.std.proofs.Common.{ap, sym, ◌∙◌}
use Rattle.std.proofs.lemmas.Slice.Eq.{bytes_eq-Decides}
use Rattle.std.specs.List.{list_all}
use Rattle.tables.specs.Change.{is_change}
use Rattle.unit_changes.proofs.Storing.{schemas_stay, stores_kept}
use Rattle.unit_changes.proofs.unit.UnitChanges.keep_stores.Goals as goal

pub returns-clause-stores : goal.returns-clause-stores
returns-clause-stores c s h =
    stores_kept c.changes_are_local.ensures.kept c.args.self.now s (ap (list_all is_change) (sym c.self.view_is) ∙ c.self.invariant.good) h

pub returns-clause-schemas : goal.returns-clause-schemas
returns-clause-schemas c =
    schemas_stay (record { created = c.changes_are_local.ensures.created; put = c.changes_are_local.ensures.put; removed = c.changes_are_local.ensures.removed; kept = c.changes_are_local.ensures.kept }) (λ a b h. (bytes_eq-Decides a b).0 h) c.args.self.now
