use Rattle.std.proofs.Common.{List, ◌∙◌, ap}
use Rattle.core_model.specs.Units.{Held, has_work, unit_of}
use Rattle.unit_table.specs.Owner.{plain_owner}
use Rattle.unit_table.proofs.Changing.{has_place}
use Rattle.unit_table.proofs.units.Units.has_work.Goals as goal

pub returns : goal.returns
returns c =
    let o = plain_owner c.args.owner.now in
    let es = c.self.inside.entries.items in
    c.is_ok.ensures.value
    ∙ has_place c.self.inside.claims o es c.self.invariant.listed c.place.result (rw c.as_slice.ensures.value at c.place.ensures.found) (rw c.as_slice.ensures.value at c.place.ensures.absent)
    ∙ ap (λ (hs : List Held). has_work (unit_of o hs)) c.self.view_is
