use Rattle.std.proofs.Common.{ap, sym, ◌∙◌, ◌≡◌, ℕ, Some}
use Rattle.std.specs.List.{position, remove}
use Rattle.unit_locks.specs.Index.{bucket, is_place}
use Rattle.unit_locks.specs.Lists.{list_at}
use Rattle.unit_locks.proofs.Buckets.{forgotten}
use Rattle.unit_locks.proofs.place.forget.Goals as goal

pub returns-in-Some : goal.returns-in-Some
returns-in-Some c =
    let at = c.bucket-at.ensures.is in
    let list = c.list.ensures ∙ ap (λ l. list_at l c.bucket-at.result) c.as_slice.ensures.value ∙ ap (list_at c.args.places.now.items) at in
    let found : position (is_place c.args.place) (list_at c.args.places.now.items (bucket c.args.place.hash)) ≡ Some c.in-Some.i =
    ap (position (is_place c.args.place)) (sym list) ∙ sym c.in-Some.ensures in
    forgotten c.args.places.now.items c.remove.new.lists.items c.args.place c.in-Some.i found
    (ap (list_at c.remove.new.lists.items) (sym at) ∙ c.remove.ensures.items ∙ ap (λ n. remove (list_at c.args.places.now.items n) c.in-Some.i) at)
    (λ k other. c.remove.ensures.others k (λ e. other (e ∙ at)))
