use Rattle.std.proofs.Common.{ap, sym, ◌∙◌, ◌≡◌, ◌+◌, ℕ, List, Some, get_or, refl}
use Rattle.std.specs.List.{position}
use Rattle.std.proofs.lemmas.List.Quantifiers.{position-Some}
use Rattle.unit_locks.specs.declared.access.Access.{Access}
use Rattle.unit_locks.specs.Index.{Use, counted, is_held, use_in}
use Rattle.unit_locks.proofs.Counts.{begun, raised, same_item}
use Rattle.unit_locks.proofs.holder.raise.Goals as goal

pub returns-else-count-clause-ok : goal.returns-else-count-clause-ok
returns-else-count-clause-ok c k =
    let u = use_in c.args.unit c.args.claim.now in
    let hs = c.args.holders.now.items in
    let found : position (is_held u) hs ≡ Some c.in-Some.i = ap (position (is_held u)) (sym c.as_slice.ensures.value) ∙ sym c.in-Some.ensures in
    let h = c.index_mut-holder.result.now in
    let is : h ≡ get_or hs c.in-Some.i h = c.index_mut-holder.ensures.value in
    let inside = (position-Some (is_held u) hs c.in-Some.i h found).0 in
    let same = c.index.ensures ∙ same_item hs c.in-Some.i c.index.result.now h inside ∙ sym is in
    raised hs c.in-Some.i (c.index.result.now.count + 1) h u k found is (ap (λ x. x.count + 1) same)

pub returns-in_ok-push-in-None-clause-ok : goal.returns-in_ok-push-in-None-clause-ok
returns-in_ok-push-in-None-clause-ok c k =
    let table = c.in_ok-table-in-None.ensures.items ∙ c.table.ensures in
    let is = ap (λ (t : List ℕ). let u : Use = record { unit = c.args.unit; table = t; access = c.access-access.result } in u) table
    ∙ ap (λ (a : Access). let u : Use = record { unit = c.args.unit; table = c.args.claim.now.table; access = a } in u) c.access-access.ensures in
    ap (λ l. counted l k) c.in_ok-push-in-None.ensures.items ∙ begun c.args.holders.now.items _ (use_in c.args.unit c.args.claim.now) k is refl
