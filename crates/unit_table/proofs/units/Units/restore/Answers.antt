use Rattle.std.proofs.Common.{◌≡◌, true, false, List, [], length, sym, ◌∙◌, subst, arith, vec_len}
use Rattle.std.proofs.lemmas.Bool.{eqb-true}
use Rattle.tables.specs.Change.{Change}
use Rattle.unit_locks.specs.Claim.{Claim}
use Rattle.unit_locks.specs.Claims.{all_added}
use Rattle.unit_locks.proofs.ListRows.{no_items}
use Rattle.core_model.specs.Units.{Held, Owner, global, has_work, set_unit, unit_of}
use Rattle.unit_table.specs.Table.{IsAt, IsGapFor}
use Rattle.unit_table.proofs.Rows.{gap_lacks}
use Rattle.unit_table.proofs.Changing.{works_at}
use Rattle.unit_table.proofs.units.Units.restore.Goals as goal

-- the owner has no work, so it is not listed
pub unreachable-requires : goal.unreachable-requires
unreachable-requires c =
    let o : Owner = global c.args.xid in
    let at : IsAt o c.self.inside.entries.items c.in-Ok.field-0 = rw c.as_slice.ensures.value at c.in-Ok.ensures.found in
    let works = works_at c.self.inside.claims o c.self.inside.entries.items c.in-Ok.field-0 c.self.invariant.listed at in
    let here : has_work (unit_of o c.args.self.now) ≡ true = subst (λ (hs : List Held). has_work (unit_of o hs) ≡ true) c.self.view_is works in
    let none : true ≡ false = sym here ∙ c.requires.idle in
    absurd cc

pub returns-in-Err-clause-ok : goal.returns-in-Err-clause-ok
returns-in-Err-clause-ok c =
    let gap : IsGapFor (global c.args.xid) c.self.inside.entries.items c.in-Err.field-0 = rw c.as_slice.ensures.value at c.in-Err.ensures.absent in
    let o : Owner = global c.args.xid in
    let claims : c.args.claims.items ≡ [] = no_items c.args.claims.items (omega (arith, eqb-true (vec_len c.args.claims) 0 (sym c.if-is_empty.ensures), c.args.claims.ok.0)) in
    let changes : c.args.changes ≡ [] = no_items c.args.changes (eqb-true (length c.args.changes) 0 (sym c.if-is_empty-2.ensures)) in
    let hs = c.args.self.now in
    let P : List Held → Type 0 = λ l. l ≡ set_unit o (record { changes = []; claims = [] }) l in
    let none : P hs = subst P c.self.view_is (sym (gap_lacks c.self.inside.claims o c.self.inside.entries.items c.in-Err.field-0 c.self.invariant.listed gap)) in
    let Q : List Claim → Type 0 = λ cs. hs ≡ set_unit o (record { changes = []; claims = all_added [] cs }) hs in
    let R : List Change → Type 0 = λ xs. hs ≡ set_unit o (record { changes = xs; claims = all_added [] c.args.claims.items }) hs in
    subst R (sym changes) (subst Q (sym claims) none)
