use Rattle.std.proofs.Common.{subst}
use Rattle.recovery.specs.Journaled.{Journaled, shown_on}
use Rattle.core_history.specs.Books.{Told}
use Rattle.core_history.proofs.Opening.{rests_on}
use Rattle.core_history.proofs.book.Book.consider_checkpoint.Goals as goal

pub invariant_of-self : goal.invariant_of-self
invariant_of-self g c =
    let inside = c.self.inside in
    rests_on g.D.Disk.is_modelled g.D.Disk.life inside.core inside.opening.value c.renew.new.core inside.calls.listed inside.places.items inside.left.items inside.next
    c.calls_go_on.ensures c.self.invariant c.renew.ensures.rests c.renew.ensures.journaled

pub returns-else-is_due-clause-journaled : goal.returns-else-is_due-clause-journaled
returns-else-is_due-clause-journaled g c =
    subst (λ (b : Told g.row.D.Denot). Journaled g.D.Disk.is_modelled (shown_on g.D.Disk.life b.core) (shown_on g.D.Disk.life b.core)) c.self.view_is
    (c.calls_go_on.ensures.none g.D.Disk.is_modelled c.self.inside.core c.is_durable.ensures)
