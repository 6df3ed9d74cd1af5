use Rattle.std.proofs.Common.{◌≡◌, ◌⊎◌, List, ℕ, sym, subst}
use Rattle.dss_frames.specs.Fault.{IsUnfinished}
use Rattle.dss_frames.specs.Lending.{GoesFar}
use Rattle.dss_frames.proofs.Fronts.{keeps_to_nothing}
use Rattle.dss_frames.proofs.segments.Segments.feed_command.Goals as goal

pub returns-then-self-clause-first : goal.returns-then-self-clause-first
returns-then-self-clause-first c = λ un. keeps_to_nothing c.args.self.now.rest c.args.piece.now un

pub returns-then-is_empty-2-clause-far : goal.returns-then-is_empty-2-clause-far
returns-then-is_empty-2-clause-far c = λ un.
    subst (λ (b : List ℕ). (c.feed_first.result ≡ 0) ⊎ GoesFar b c.args.piece.now c.feed_first.result) c.make_room.ensures.rest
    (c.feed_first.ensures.far (subst IsUnfinished (sym c.make_room.ensures.rest) un))
