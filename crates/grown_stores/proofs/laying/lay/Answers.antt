use Rattle.std.proofs.Common.{List, [], ◌∷◌, ℕ, length, ◌∙◌, ap, arith}
use Rattle.drda_disk.specs.Disk.{overlaid}
use Rattle.drda_disk.proofs.Moments.{and_then, and_stays}
use Rattle.half_store.proofs.Formatted.{unmarked_torn}
use Rattle.grown_stores.proofs.laying.lay.Goals as goal

pub returns-in_err-write_at-clause-unmarked : goal.returns-in_err-write_at-clause-unmarked
returns-in_err-write_at-clause-unmarked g c bare = unmarked_torn 8 (length c.args.head.now) _ _ (omega arith) c.write_at.ensures.tears bare

pub returns-in_err-write_at-2-clause-unmarked : goal.returns-in_err-write_at-2-clause-unmarked
returns-in_err-write_at-2-clause-unmarked g c bare =
    let first = unmarked_torn 8 (length c.args.head.now) _ _ (omega arith) c.write_at.ensures.tears bare in
    and_then _ _ _ _ _ _ first (unmarked_torn c.args.second_at 1 _ _ (omega (arith, c.requires.behind)) c.write_at-2.ensures.tears first.now) (λ i is. is) (λ i is. is)

pub returns-in_err-sync-clause-unmarked : goal.returns-in_err-sync-clause-unmarked
returns-in_err-sync-clause-unmarked g c bare =
    let first = unmarked_torn 8 (length c.args.head.now) _ _ (omega arith) c.write_at.ensures.tears bare in
    and_stays _ _ _ _
    (and_then _ _ _ _ _ _ first (unmarked_torn c.args.second_at 1 _ _ (omega (arith, c.requires.behind)) c.write_at-2.ensures.tears first.now) (λ i is. is) (λ i is. is))
    c.sync.ensures.stays

pub returns-clause-unmarked : goal.returns-clause-unmarked
returns-clause-unmarked g c bare =
    let first = unmarked_torn 8 (length c.args.head.now) _ _ (omega arith) c.write_at.ensures.tears bare in
    and_stays _ _ _ _
    (and_then _ _ _ _ _ _ first (unmarked_torn c.args.second_at 1 _ _ (omega (arith, c.requires.behind)) c.write_at-2.ensures.tears first.now) (λ i is. is) (λ i is. is))
    c.sync.ensures.stays

pub returns-clause-written : goal.returns-clause-written
returns-clause-written g c honest =
    c.sync.ensures.stays.same ∙ c.in_ok-write_at-2.ensures.written honest ∙ ap (λ (l : List ℕ). overlaid l c.args.second_at (0 ∷ [])) (c.in_ok-write_at.ensures.written honest)
