use Rattle.std.proofs.Common.{◌≡◌, ℕ, Bool, ap, sym, subst, true, get_or}
use Rattle.std.proofs.lemmas.List.Quantifiers.{position-Some}
use Rattle.unit_locks.specs.declared.holder.Holder.{Holder}
use Rattle.unit_locks.specs.Index.{Finds, blocks}
use Rattle.unit_locks.proofs.Counts.{no_place}
use Rattle.unit_locks.proofs.ListRows.{found_item}
use Rattle.unit_locks.proofs.holder.other_holder.Goals as goal

pub returns-in-Some : goal.returns-in-Some
returns-in-Some c =
    let p : Holder → Bool = blocks c.args.unit c.args.claim.now in
    let f = position-Some p c.args.holders.now c.in-Some.i c.index-holders-i.result (sym c.in-Some.ensures) in
    let unit_of : Holder → ℕ = λ h. h.unit in
    let P : Holder → Type 0 = λ h. Finds p unit_of c.args.holders.now h.unit in
    subst P c.index-holders-i.is (found_item p unit_of c.args.holders.now c.in-Some.i c.index-holders-i.result f.0 c.index-holders-i.is (subst (λ (h : Holder). p h ≡ true) (sym c.index-holders-i.is) f.1))

pub returns-in-None : goal.returns-in-None
returns-in-None c = no_place (blocks c.args.unit c.args.claim.now) c.args.holders.now (sym c.in-None.ensures)
