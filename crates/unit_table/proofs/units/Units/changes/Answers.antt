use Rattle.std.proofs.Common.{List, sym, ◌∙◌, ap, arith}
use Rattle.core_model.specs.Units.{Held, Work, unit_of}
use Rattle.unit_table.specs.Owner.{plain_owner}
use Rattle.unit_table.specs.Table.{IsAt, IsGapFor}
use Rattle.unit_table.proofs.Rows.{at_inside, gap_idle}
use Rattle.unit_table.proofs.Changing.{work_at}
use Rattle.unit_table.proofs.units.Units.changes.Goals as goal

pub index-requires : goal.index-requires
index-requires c =
    let at : IsAt (plain_owner c.args.owner.now) c.self.inside.entries.items c.in-Ok.at = rw c.as_slice.ensures.value at c.in-Ok.ensures.found in
    let below = at_inside c.self.inside.claims (plain_owner c.args.owner.now) c.self.inside.entries.items c.in-Ok.at at in
    omega (arith, below, c.self.inside.entries.ok.0)

pub returns-in-Ok : goal.returns-in-Ok
returns-in-Ok c =
    let at : IsAt (plain_owner c.args.owner.now) c.self.inside.entries.items c.in-Ok.at = rw c.as_slice.ensures.value at c.in-Ok.ensures.found in
    let o = plain_owner c.args.owner.now in
    c.as_slice-in-Ok.ensures
    ∙ sym (ap (λ (w : Work). w.changes) (work_at c.self.inside.claims o c.self.inside.entries.items c.in-Ok.at c.index.result.now at c.index.ensures))
    ∙ ap (λ (hs : List Held). (unit_of o hs).changes) c.self.view_is

pub returns-in-Err : goal.returns-in-Err
returns-in-Err c =
    let gap : IsGapFor (plain_owner c.args.owner.now) c.self.inside.entries.items c.in-Err.field-0 = rw c.as_slice.ensures.value at c.in-Err.ensures.absent in
    let o = plain_owner c.args.owner.now in
    sym (ap (λ (w : Work). w.changes) (gap_idle c.self.inside.claims o c.self.inside.entries.items c.in-Err.field-0 c.self.invariant.listed gap))
    ∙ ap (λ (hs : List Held). (unit_of o hs).changes) c.self.view_is
