-- The tables behind the changes are those of the base and those that it lacks.
use Rattle.std.proofs.Common.{◌≡◌, List, ap, sym, subst, ◌∙◌, true, length, map}
use Rattle.std.specs.Bool.{IsTrue}
use Rattle.std.specs.List.{list_all}
use Rattle.tables.specs.Change.{Change, is_change}
use Rattle.tables.specs.View.{is_store}
use Rattle.tables.specs.Applied.{apply_all}
use Rattle.unit_changes.specs.declared.table_changes.TableChanges.{TableChanges}
use Rattle.unit_changes.specs.TableChanges.{table_of}
use Rattle.unit_changes.specs.Index.{AreNew, IsIndex, lacking}
use Rattle.unit_changes.proofs.Storing.{Local}
use Rattle.unit_changes.proofs.Counting.{counted, counted_result}
use Rattle.unit_changes.proofs.unit.UnitChanges.lacking.Goals as goal

pub returns-clause-count : goal.returns-clause-count
returns-clause-count g c =
    let laws : Local = record { created = c.changes_are_local.ensures.created; put = c.changes_are_local.ensures.put; removed = c.changes_are_local.ensures.removed; kept = c.changes_are_local.ensures.kept } in
    let s = g.V.TableView.store c.args.base.now in
    let index : IsIndex c.args.self.now (map table_of c.as_slice.result.now) =
    subst (λ (ts : List TableChanges). IsIndex c.args.self.now (map table_of ts)) (sym c.as_slice.ensures.value)
    (subst (λ (cs : List Change). IsIndex cs (map table_of c.self.inside.tables.items)) c.self.view_is c.self.invariant.index) in
    let good : list_all is_change c.args.self.now ≡ true = ap (list_all is_change) (sym c.self.view_is) ∙ c.self.invariant.good in
    counted_result (IsTrue g.V.TableView.is_faithful) (AreNew (map table_of c.as_slice.result.now) s) (is_store s ≡ true) c.count_lacking.result (lacking (map table_of c.as_slice.result.now) s) (length s) (length (apply_all c.args.self.now s))
    c.count_lacking.ensures.count c.count_lacking.ensures.new
    (λ new isStore. counted laws c.stores_are_what_they_show.ensures.names c.args.self.now (map table_of c.as_slice.result.now) s good index new isStore)
