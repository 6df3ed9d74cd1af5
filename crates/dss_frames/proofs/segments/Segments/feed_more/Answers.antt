use Rattle.std.proofs.Common.{List, ℕ, inr, sym, subst}
use Rattle.dss_frames.specs.Fault.{IsUnfinished}
use Rattle.dss_frames.specs.Lending.{GoesFar, KeepsToFirst}
use Rattle.dss_frames.proofs.Fronts.{as_far_as_wanted, as_wanted, keeps_to_nothing}
use Rattle.dss_frames.proofs.segments.Segments.feed_more.Goals as goal

pub returns-clause-first : goal.returns-clause-first
returns-clause-first c = λ un.
    let held = subst IsUnfinished (sym c.rest.ensures) un in
    subst (λ (b : List ℕ). KeepsToFirst b c.args.piece.now c.min-count.result) c.rest.ensures (as_wanted c.rest.result.now c.args.piece.now c.wanted.result c.min-count.result c.min-count.ensures (c.wanted.ensures.exact held) held)

pub returns-clause-far : goal.returns-clause-far
returns-clause-far c = λ un.
    let held = subst IsUnfinished (sym c.rest.ensures) un in
    inr (subst (λ (b : List ℕ). GoesFar b c.args.piece.now c.min-count.result) c.rest.ensures (as_far_as_wanted c.rest.result.now c.args.piece.now c.wanted.result c.min-count.result c.min-count.ensures (c.wanted.ensures.exact held)))

pub returns-in_default-clause-first : goal.returns-in_default-clause-first
returns-in_default-clause-first c = λ un. keeps_to_nothing c.args.self.now.rest c.args.piece.now un
