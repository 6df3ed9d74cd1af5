use Rattle.std.proofs.Common.{List, Option, subst}
use Rattle.core_history.specs.declared.count.Count.{Count}
use Rattle.core_history.specs.Books.{Told}
use Rattle.core_history.specs.Passes.{AreJustAt, AreListed}
use Rattle.core_history.proofs.Listed.{are_listed}
use Rattle.core_history.proofs.book.Book.is_just.Goals as goal

pub returns-clause-listed : goal.returns-clause-listed
returns-clause-listed g c told =
    let passes = c.args.passes.now in
    let inside = c.self.inside in
    let book : Told g.row.D.Denot = record { core = inside.core; opening = inside.opening.value; calls = inside.calls.listed; places = inside.places.items; left = inside.left.items; next = inside.next } in
    subst (λ (b : Told g.row.D.Denot). AreListed {D = g.row.D.Denot} passes b) c.self.view_is
    (are_listed {D = g.row.D.Denot} book passes c.self.invariant.counted (subst (λ (ps : List (Option Count)). AreJustAt passes ps) c.deref.ensures.value (c.are_just.ensures.0 told)))
