use Rattle.std.proofs.Common.{ap, sym, subst, ◌∙◌, ◌≡◌, ℕ, List, false}
use Rattle.std.specs.List.{list_any}
use Rattle.unit_locks.specs.declared.place.Place.{Place}
use Rattle.unit_locks.specs.Claim.{Claim}
use Rattle.unit_locks.specs.Claims.{ClashesWith}
use Rattle.unit_locks.specs.Index.{Finds, bucket, clashes_there}
use Rattle.unit_locks.specs.Lists.{list_at}
use Rattle.unit_locks.proofs.Indexed.{found_clash}
use Rattle.unit_locks.proofs.Whole.{on_match}
use Rattle.unit_locks.proofs.index.other_at.Goals as goal

pub returns : goal.returns
returns c =
    let claims : ℕ → List Claim = λ u. list_at c.args.units.now u in
    let test = clashes_there claims c.args.unit c.args.claim.now c.args.hash in
    let list = c.list.ensures ∙ ap (list_at c.args.places.now) c.bucket.ensures.is in
    let unit_of : Place → ℕ = λ p. p.unit in
    on_match c.other_unit.result (list_any test c.list.result.now ≡ false) (list_any test (list_at c.args.places.now (bucket c.args.hash)) ≡ false)
    (Finds test unit_of c.list.result.now) (λ other. ClashesWith claims c.args.unit c.args.claim.now other)
    (λ none. sym (ap (list_any test) list) ∙ none)
    (λ other found. found_clash claims c.args.unit c.args.hash other c.args.claim.now c.list.result.now found) c.other_unit.ensures
