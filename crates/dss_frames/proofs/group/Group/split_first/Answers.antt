use Rattle.std.proofs.Common.{◌+◌, ◌∷◌, ◌∙◌, sym, ap, length}
use Rattle.std.proofs.lemmas.List.{take_rest}
use Rattle.dss_frames.specs.Group.{dss_of, joined_dsss}
use Rattle.dss_frames.proofs.Walks.{first_and_others}
use Rattle.dss_frames.proofs.group.Group.split_first.Goals as goal

pub returns : goal.returns
returns c =
    let behind = 6 + length c.in-Some.dss.contents.now in
    first_and_others c.args.self.now.text.now (dss_of c.in-Some.dss) (sym c.in-Some.ensures.value)
    ∙ ap (λ b. dss_of c.in-Some.dss ∷ joined_dsss b) (sym (take_rest c.args.self.now.text.now behind))
