use Rattle.std.proofs.Common.{ap, ◌∙◌}
use Rattle.key_map.specs.Slots.{rows_of}
use Rattle.key_map.specs.Merging.{row_at}
use Rattle.key_map.specs.Overlay.{seen}
use Rattle.key_map.proofs.Said.{get_said}
use Rattle.key_map.proofs.overlay.Overlay.get.Goals as goal

pub returns : goal.returns
returns c rows up was =
    c.choose.ensures
    ∙ get_said c.args.key.now rows (rows_of c.args.self.now) (seen c.get.result) (seen c.args.base) up
    (c.get.ensures ∙ ap (λ s. row_at c.args.key.now (rows_of s)) c.self.view_is) was
