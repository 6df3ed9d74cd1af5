-- What the index says of a table is told.
use Rattle.std.proofs.Common.{◌≡◌, List, None, Option, Some, ap, subst, sym, ◌∙◌, map}
use Rattle.std.specs.Prelude.{position}
use Rattle.tables.specs.Change.{Change}
use Rattle.tables.specs.ChangeView.{change_of}
use Rattle.unit_changes.specs.UnitTable.{UnitTable}
use Rattle.unit_changes.specs.TableChanges.{table_of}
use Rattle.unit_changes.specs.Index.{IsToldOf, is_named}
use Rattle.unit_changes.proofs.Listing.{told_nowhere, told_there}
use Rattle.unit_changes.proofs.unit.UnitChanges.table.Goals as goal

pub returns-in-Some : goal.returns-in-Some
returns-in-Some c =
    let at : position (is_named c.args.name.now) c.self.inside.tables.items ≡ Some c.in-Some.i = ap (position (is_named c.args.name.now)) (sym c.as_slice.ensures.value) ∙ sym c.place_of.ensures.place ∙ c.in-Some.is in
    subst (λ (cs : List Change). IsToldOf (Some (table_of c.index.result.now)) c.args.name.now cs) c.self.view_is
    (subst (λ (o : Option UnitTable). IsToldOf o c.args.name.now (map change_of c.self.inside.changes.items)) (told_there c.args.name.now c.self.inside.tables.items c.in-Some.i c.index.result.now at c.index.ensures) (c.self.invariant.index.told c.args.name.now))

pub returns-in-None : goal.returns-in-None
returns-in-None c =
    let at : position (is_named c.args.name.now) c.self.inside.tables.items ≡ None = ap (position (is_named c.args.name.now)) (sym c.as_slice.ensures.value) ∙ sym c.place_of.ensures.place ∙ c.in-None.is in
    subst (λ (cs : List Change). IsToldOf None c.args.name.now cs) c.self.view_is
    (subst (λ (o : Option UnitTable). IsToldOf o c.args.name.now (map change_of c.self.inside.changes.items)) (told_nowhere c.args.name.now c.self.inside.tables.items at) (c.self.invariant.index.told c.args.name.now))
