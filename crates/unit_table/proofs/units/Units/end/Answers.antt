use Rattle.std.proofs.Common.{◌≡◌, List, sym, ◌∙◌, ap, subst}
use Rattle.core_model.specs.Units.{Held, Work, unit_of, without}
use Rattle.unit_table.specs.Owner.{plain_owner}
use Rattle.unit_table.specs.Table.{IsGapFor}
use Rattle.unit_table.proofs.Rows.{gap_idle, gap_lacks}
use Rattle.unit_table.proofs.units.Units.end.Goals as goal

pub returns-in-Err-clause-changes : goal.returns-in-Err-clause-changes
returns-in-Err-clause-changes c =
    let gap : IsGapFor (plain_owner c.args.owner.now) c.self.inside.entries.items c.in-Err.field-0 = rw c.as_slice.ensures.value at c.in-Err.ensures.absent in
    let o = plain_owner c.args.owner.now in
    c.new.ensures
    ∙ sym (ap (λ (w : Work). w.changes) (gap_idle c.self.inside.claims o c.self.inside.entries.items c.in-Err.field-0 c.self.invariant.listed gap))
    ∙ ap (λ (hs : List Held). (unit_of o hs).changes) c.self.view_is

pub returns-in-Err-clause-ended : goal.returns-in-Err-clause-ended
returns-in-Err-clause-ended c =
    let gap : IsGapFor (plain_owner c.args.owner.now) c.self.inside.entries.items c.in-Err.field-0 = rw c.as_slice.ensures.value at c.in-Err.ensures.absent in
    let o = plain_owner c.args.owner.now in
    let P : List Held → Type 0 = λ hs. hs ≡ without o hs in
    subst P c.self.view_is (sym (gap_lacks c.self.inside.claims o c.self.inside.entries.items c.in-Err.field-0 c.self.invariant.listed gap))
