use Rattle.std.proofs.Common.{ap, sym, ◌∙◌, ◌≡◌, ℕ, length, refl}
use Rattle.unit_locks.specs.Index.{place_of}
use Rattle.unit_locks.specs.Lists.{list_at}
use Rattle.unit_locks.proofs.Whole.{entered, refused, stayed}
use Rattle.unit_locks.proofs.index.enter.Goals as goal

pub returns-in-Err-clause-index : goal.returns-in-Err-clause-index
returns-in-Err-clause-index c = stayed c.args.units.now.items c.args.places.now.items c.index_next.new.places.items c.args.holders.now.items c.index_next.new.holders.items c.requires c.in-Err.ensures.err

pub returns-in-Ok-push-clause-index : goal.returns-in-Ok-push-clause-index
returns-in-Ok-push-clause-index c =
    let is = c.next_place-place.ensures ∙ ap (λ l. place_of c.args.unit (length (list_at l c.args.unit)) c.args.claim) c.as_slice.ensures.value in
    entered c.args.units.now.items c.push.new.lists.items c.args.places.now.items c.index_next.new.places.items c.args.holders.now.items c.index_next.new.holders.items c.args.unit c.args.claim c.next_place-place.result c.requires
    is (ap (λ p. p.unit) is) c.in-Ok.ensures.ok c.in-Ok-push.ensures.ok c.push.ensures.others

pub returns-in-Err-push-clause-index : goal.returns-in-Err-push-clause-index
returns-in-Err-push-clause-index c =
    let is = c.next_place-place.ensures ∙ ap (λ l. place_of c.args.unit (length (list_at l c.args.unit)) c.args.claim) c.as_slice.ensures.value in
    refused c.args.units.now.items c.push.new.lists.items c.args.places.now.items c.index_next.new.places.items c.forget.new.places.items c.args.holders.now.items c.index_next.new.holders.items c.forget.new.holders.items c.args.unit c.args.claim c.in-Err-push.claim c.next_place-place.result c.requires
    is (ap (λ p. p.unit) is) c.in-Err-push.ensures.back c.in-Ok.ensures.ok c.forget.ensures c.in-Err-push.ensures.err c.push.ensures.others
