use Rattle.std.proofs.Common.{sym, ◌≡◌, ℕ, List}
use Rattle.unit_locks.specs.Claim.{Claim}
use Rattle.unit_locks.specs.Lists.{list_at}
use Rattle.unit_locks.proofs.Indexed.{found_holder, no_holder}
use Rattle.unit_locks.proofs.index.other_claiming.Goals as goal

pub returns-in-Some-other_with_table : goal.returns-in-Some-other_with_table
returns-in-Some-other_with_table c =
    let claims : ℕ → List Claim = λ u. list_at c.args.units.now u in
    found_holder c.args.holders.now claims c.args.unit c.in-Some-other_with_table.other c.args.claim.now c.requires.counts (sym c.in-None.ensures) c.in-Some-other_with_table.ensures

pub returns-in-None-other_with_table : goal.returns-in-None-other_with_table
returns-in-None-other_with_table c =
    let claims : ℕ → List Claim = λ u. list_at c.args.units.now u in
    no_holder c.args.holders.now claims c.args.unit c.args.claim.now c.requires.counts c.in-None-other_with_table.ensures
