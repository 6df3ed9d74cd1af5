use Rattle.std.proofs.Common.{ap, sym, ◌∙◌, ◌≡◌, ℕ, length, take, refl}
use Rattle.unit_locks.specs.Index.{place_of}
use Rattle.unit_locks.specs.Lists.{list_at}
use Rattle.unit_locks.proofs.Whole.{left, none_left, nothing_left, same_lists, without_last}
use Rattle.unit_locks.proofs.index.leave.Goals as goal

pub returns-in-Some-clause-index : goal.returns-in-Some-clause-index
returns-in-Some-clause-index c =
    let is = c.next_place-place.ensures ∙ ap (λ l. place_of c.args.unit (length (list_at l c.args.unit)) c.in-Some.claim) c.as_slice.ensures.value in
    left c.args.units.now.items c.pop.new.lists.items c.args.places.now.items c.forget.new.places.items c.args.holders.now.items c.forget.new.holders.items c.args.unit c.in-Some.claim c.next_place-place.result c.requires
    is (ap (λ p. p.unit) is) c.forget.ensures c.in-Some.ensures.items c.pop.ensures.others

pub returns-in-Some-clause-items : goal.returns-in-Some-clause-items
returns-in-Some-clause-items c = without_last (list_at c.args.units.now.items c.args.unit) (list_at c.pop.new.lists.items c.args.unit) c.in-Some.claim c.in-Some.ensures.items

pub returns-in-None-clause-index : goal.returns-in-None-clause-index
returns-in-None-clause-index c = same_lists c.args.units.now.items c.pop.new.lists.items c.args.places.now.items c.args.holders.now.items c.requires (none_left c.args.units.now.items c.pop.new.lists.items c.args.unit c.in-None.ensures.items c.pop.ensures.others)

pub returns-in-None-clause-items : goal.returns-in-None-clause-items
returns-in-None-clause-items c = nothing_left (list_at c.args.units.now.items c.args.unit) (list_at c.pop.new.lists.items c.args.unit) c.in-None.ensures.items c.in-None.ensures.empty
