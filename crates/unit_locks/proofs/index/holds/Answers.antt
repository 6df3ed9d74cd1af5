use Rattle.std.proofs.Common.{ap, ◌∙◌, ◌≡◌, List, ℕ}
use Rattle.std.specs.List.{list_any}
use Rattle.unit_locks.specs.Claim.{Claim}
use Rattle.unit_locks.specs.Index.{bucket, is_there}
use Rattle.unit_locks.specs.Lists.{list_at}
use Rattle.unit_locks.proofs.Indexed.{own_found}
use Rattle.unit_locks.proofs.index.holds.Goals as goal

pub returns : goal.returns
returns c =
    let claims : ℕ → List Claim = λ u. list_at c.args.units.now u in
    c.any_holds.ensures
    ∙ ap (list_any (is_there claims c.args.unit c.args.claim.now c.scope_hash-hash.result)) (c.list.ensures ∙ ap (list_at c.args.places.now) c.bucket.ensures.is)
    ∙ ap (λ (h : ℕ). list_any (is_there claims c.args.unit c.args.claim.now h) (list_at c.args.places.now (bucket h))) c.scope_hash-hash.ensures
    ∙ own_found c.args.places.now claims c.args.unit c.args.claim.now c.requires
