use Rattle.core_history.proofs.Opening.{rests_on}
use Rattle.core_history.proofs.book.Book.settle.Goals as goal

pub invariant_of-self : goal.invariant_of-self
invariant_of-self g c =
    let inside = c.self.inside in
    let rests = c.settle.ensures.rests in
    rests_on g.D.Disk.is_modelled g.D.Disk.life inside.core inside.opening.value c.settle.new.self inside.calls.listed inside.places.items inside.left.items inside.next
    c.calls_go_on.ensures c.self.invariant (record { name = rests.name; state = rests.state; made = rests.made; failed = λ f. (rests.failed f).failed }) c.settle.ensures.journaled
