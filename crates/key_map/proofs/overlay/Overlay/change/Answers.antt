use Rattle.std.proofs.Common.{sym, ap, ◌∙◌}
use Rattle.std.specs.Prelude.{option_map}
use Rattle.key_map.specs.Slots.{rows_of}
use Rattle.key_map.specs.Merging.{row_at}
use Rattle.key_map.specs.Overlay.{said}
use Rattle.key_map.proofs.Said.{found_said}
use Rattle.key_map.proofs.overlay.Overlay.change.Goals as goal

pub returns : goal.returns
returns c =
    c.said_by.ensures
    ∙ ap (λ o. option_map said o) (c.get.ensures ∙ ap (λ s. row_at c.args.key.now (rows_of s)) c.self.view_is)
    ∙ sym (found_said c.args.key.now (rows_of c.args.self.now))
