use Rattle.std.proofs.Common.{List, ℕ, inr, sym, subst}
use Rattle.dss_frames.specs.Fault.{IsUnfinished}
use Rattle.dss_frames.specs.Lending.{GoesFar}
use Rattle.dss_frames.proofs.Fronts.{keeps_to_nothing}
use Rattle.dss_frames.proofs.segments.Segments.feed_first.Goals as goal

pub returns-in-Ok-clause-far : goal.returns-in-Ok-clause-far
returns-in-Ok-clause-far c = λ un.
    inr (subst (λ (b : List ℕ). GoesFar b c.args.piece.now c.front_of-count.result.0) c.rest.ensures (c.front_of-count.ensures.far (subst IsUnfinished (sym c.rest.ensures) un)))

pub returns-in-Err-clause-first : goal.returns-in-Err-clause-first
returns-in-Err-clause-first c = λ un. keeps_to_nothing c.args.self.now.rest c.args.piece.now un
