use Rattle.std.proofs.Common.{◌≡◌, List, [], sym, subst, arith, vec_len}
use Rattle.std.specs.Prelude.{map}
use Rattle.std.proofs.lemmas.Bool.{eqb-true}
use Rattle.unit_locks.specs.Claim.{Claim}
use Rattle.unit_locks.proofs.ListRows.{no_items}
use Rattle.tables.specs.declared.change.Change.{Change as CodeChange}
use Rattle.tables.specs.ChangeView.{change_of}
use Rattle.unit_table.specs.Keeping.{KeepsAll}
use Rattle.core_model.specs.Units.{Held}
use Rattle.unit_table.specs.Owner.{plain_owner}
use Rattle.unit_table.specs.Table.{IsGapFor}
use Rattle.unit_table.proofs.Changing.{nothing_kept}
use Rattle.unit_table.proofs.units.Units.keep.Goals as goal

pub returns-in-Err : goal.returns-in-Err
returns-in-Err c =
    let gap : IsGapFor (plain_owner c.args.owner.now) c.self.inside.entries.items c.in-Err.field-0 = rw c.as_slice.ensures.value at c.in-Err.ensures.absent in
    let o = plain_owner c.args.owner.now in
    let claims : c.args.claims.items ≡ [] = no_items c.args.claims.items (omega (arith, eqb-true (vec_len c.args.claims) 0 (sym c.if-is_empty.ensures), c.args.claims.ok.0)) in
    let changes : c.args.changes.items ≡ [] = no_items c.args.changes.items (omega (arith, eqb-true (vec_len c.args.changes) 0 (sym c.if-is_empty-2.ensures), c.args.changes.ok.0)) in
    let P : List Held → Type 0 = λ hs. KeepsAll o [] [] hs hs in
    let none = subst P c.self.view_is (nothing_kept c.self.inside.claims o c.self.inside.entries.items c.in-Err.field-0 c.self.invariant.listed gap) in
    let Q : List Claim → Type 0 = λ cs. KeepsAll o cs [] c.args.self.now c.args.self.now in
    let R : List CodeChange → Type 0 = λ xs. KeepsAll o c.args.claims.items (map change_of xs) c.args.self.now c.args.self.now in
    subst R (sym changes) (subst Q (sym claims) none)
