use Rattle.std.proofs.Common.{ap, sym, subst, ◌∙◌, ◌≡◌, ℕ, List, false}
use Rattle.std.specs.List.{list_any}
use Rattle.unit_locks.specs.Claim.{Claim}
use Rattle.unit_locks.specs.Claims.{ClashesWith, ClashesWithNone}
use Rattle.unit_locks.specs.Index.{bucket, claim_hash, clashes_there, mixed, table_hash}
use Rattle.unit_locks.specs.Lists.{list_at}
use Rattle.unit_locks.proofs.Indexed.{no_clash}
use Rattle.unit_locks.proofs.Whole.{on_match, some_key}
use Rattle.unit_locks.proofs.index.other_with_key.Goals as goal

pub returns-in-None : goal.returns-in-None
returns-in-None c =
    let claims : ℕ → List Claim = λ u. list_at c.args.units.now u in
    let P : ℕ → Type 0 = λ h. list_any (clashes_there claims c.args.unit c.args.claim.now h) (list_at c.args.places.now (bucket h)) ≡ false in
    let key = some_key c.args.claim.now.key c.requires.key in
    let whole = c.whole_hash-whole.ensures ∙ ap (λ h. mixed h 0) c.table_hash.ensures in
    on_match c.other_at-by_table.result (P c.whole_hash-whole.result) (ClashesWithNone claims c.args.unit c.args.claim.now)
    (λ other. ClashesWith claims c.args.unit c.args.claim.now other) (λ other. ClashesWith claims c.args.unit c.args.claim.now other)
    (λ none. no_clash c.args.places.now claims c.args.unit c.args.claim.now key.0 c.requires.indexed key.1 (subst P c.scope_hash-hash.ensures c.in-None.ensures) (subst P whole none))
    (λ other found. found) c.other_at-by_table.ensures
