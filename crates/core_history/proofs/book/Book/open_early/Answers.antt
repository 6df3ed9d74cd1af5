use Rattle.core_history.proofs.Opening.{rests_on}
use Rattle.core_history.proofs.book.Book.open_early.Goals as goal

pub invariant_of-self-2 : goal.invariant_of-self-2
invariant_of-self-2 g c =
    let inside = c.self.inside in
    rests_on g.D.Disk.is_modelled g.D.Disk.life inside.core inside.opening.value c.open_early.new.core inside.calls.listed inside.places.items inside.left.items inside.next
    c.calls_go_on.ensures c.self.invariant c.open_early.ensures.rests c.open_early.ensures.journaled
