use Rattle.std.proofs.Common.{◌≡◌, ◌==◌, List, [], ◌∷◌, length, not, refl, sym, ◌∙◌, ap, arith}
use Rattle.tables.specs.Change.{Change}
use Rattle.core_model.specs.Units.{Held, Work, has_any, unit_of}
use Rattle.unit_table.specs.Owner.{plain_owner}
use Rattle.unit_table.specs.Table.{IsAt, IsGapFor}
use Rattle.unit_table.proofs.Rows.{at_inside, gap_idle}
use Rattle.unit_table.proofs.Numbers.{not_equal}
use Rattle.unit_table.proofs.Changing.{work_at}
use Rattle.unit_table.proofs.units.Units.has_changes.Goals as goal

pub index-requires : goal.index-requires
index-requires c =
    let at : IsAt (plain_owner c.args.owner.now) c.self.inside.entries.items c.in-Ok.at = rw c.as_slice.ensures.value at c.in-Ok.ensures.found in
    let below = at_inside c.self.inside.claims (plain_owner c.args.owner.now) c.self.inside.entries.items c.in-Ok.at at in
    omega (arith, below, c.self.inside.entries.ok.0)

pub returns-in-Ok : goal.returns-in-Ok
returns-in-Ok c =
    let at : IsAt (plain_owner c.args.owner.now) c.self.inside.entries.items c.in-Ok.at = rw c.as_slice.ensures.value at c.in-Ok.ensures.found in
    let o = plain_owner c.args.owner.now in
    ap not c.is_empty.ensures
    ∙ some_or_none c.index.result.now.changes
    ∙ sym (ap (λ (w : Work). has_any w.changes) (work_at c.self.inside.claims o c.self.inside.entries.items c.in-Ok.at c.index.result.now at c.index.ensures))
    ∙ ap (λ (hs : List Held). has_any (unit_of o hs).changes) c.self.view_is
  where
    some_or_none : (xs : List Change) → not (length xs == 0) ≡ has_any xs
    some_or_none [] = refl
    some_or_none (x ∷ xs) = ap not (not_equal (length (x ∷ xs)) 0 (λ q. absurd (omega (arith, q))))

pub returns-in-Err : goal.returns-in-Err
returns-in-Err c =
    let gap : IsGapFor (plain_owner c.args.owner.now) c.self.inside.entries.items c.in-Err.field-0 = rw c.as_slice.ensures.value at c.in-Err.ensures.absent in
    let o = plain_owner c.args.owner.now in
    sym (ap (λ (w : Work). has_any w.changes) (gap_idle c.self.inside.claims o c.self.inside.entries.items c.in-Err.field-0 c.self.invariant.listed gap))
    ∙ ap (λ (hs : List Held). has_any (unit_of o hs).changes) c.self.view_is
