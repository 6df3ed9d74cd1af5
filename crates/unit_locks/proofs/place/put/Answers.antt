use Rattle.std.proofs.Common.{ap, sym, ◌∙◌, ◌≡◌, ◌++◌, ◌∷◌, [], ℕ}
use Rattle.unit_locks.specs.Index.{bucket}
use Rattle.unit_locks.specs.Lists.{list_at}
use Rattle.unit_locks.proofs.Buckets.{put_kept, put_same, put_there}
use Rattle.unit_locks.proofs.place.put.Goals as goal

pub returns-in-Ok-clause-there : goal.returns-in-Ok-clause-there
returns-in-Ok-clause-there c =
    let old = c.args.places.now.items in
    put_there old c.push.new.lists.items c.args.place (ap (list_at c.push.new.lists.items) (sym c.bucket.ensures.is) ∙ c.in-Ok.ensures.ok ∙ ap (λ (n : ℕ). list_at old n ++ c.args.place ∷ []) c.bucket.ensures.is)

pub returns-in-Ok-clause-kept : goal.returns-in-Ok-clause-kept
returns-in-Ok-clause-kept c =
    let old = c.args.places.now.items in
    put_kept old c.push.new.lists.items c.args.place (ap (list_at c.push.new.lists.items) (sym c.bucket.ensures.is) ∙ c.in-Ok.ensures.ok ∙ ap (λ (n : ℕ). list_at old n ++ c.args.place ∷ []) c.bucket.ensures.is)
    (λ k other. c.push.ensures.others k (λ e. other (e ∙ c.bucket.ensures.is)))

pub returns-in-Err-clause-kept : goal.returns-in-Err-clause-kept
returns-in-Err-clause-kept c =
    let old = c.args.places.now.items in
    put_same old c.push.new.lists.items c.args.place (ap (list_at c.push.new.lists.items) (sym c.bucket.ensures.is) ∙ c.in-Err.ensures.err ∙ ap (list_at old) c.bucket.ensures.is)
    (λ k other. c.push.ensures.others k (λ e. other (e ∙ c.bucket.ensures.is)))
