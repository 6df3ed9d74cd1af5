use Rattle.std.proofs.Common.{ℕ, List, ap, ◌∙◌}
use Rattle.std.specs.Prelude.{is_some}
use Rattle.recovery.specs.Durable.{doubt_of}
use Rattle.recovery.specs.Replay.{doubts_in}
use Rattle.recovery.proofs.steps.Replay.find_completed.Goals as goal

pub add-requires : goal.add-requires
add-requires c = ap (λ (x : List ℕ). is_some (doubt_of (doubts_in c.args.self.now.units.items) x)) c.requires.same ∙ ap is_some c.requires.free
