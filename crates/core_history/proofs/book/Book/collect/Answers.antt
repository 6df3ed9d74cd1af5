use Rattle.std.proofs.Common.{◌≡◌, ◌+◌, List, Option, Some, slice_get, ap, subst}
use Rattle.core_calls.specs.Answer.{answer_of}
use Rattle.core_history.specs.declared.count.Count.{Count}
use Rattle.core_history.specs.declared.left.Left.{Left}
use Rattle.core_history.specs.Books.{Told}
use Rattle.core_history.specs.Gathered.{Collects}
use Rattle.core_history.proofs.book.Book.collect.Goals as goal

pub show-requires : goal.show-requires
show-requires g c = c.in_ok-has_failed.ensures.small

pub returns-clause-some : goal.returns-clause-some
returns-clause-some g c =
    let inside = c.self.inside in
    let pass = c.args.pass.now in
    let f = c.in_ok-has_failed.has_failed in
    let book : Told g.row.D.Denot = record { core = inside.core; opening = inside.opening.value; calls = inside.calls.listed; places = inside.places.items; left = inside.left.items; next = inside.next } in
    let now : Count = record { conversation = pass.conversation; calls = pass.count + 1 } in
    let its : Left = record { conversation = pass.conversation; number = pass.count; wished = c.args.wished.now; has_failed = f } in
    let counted : slice_get inside.places.items pass.place ≡ Some (Some now) = subst (λ (ps : List (Option Count)). slice_get ps pass.place ≡ Some (Some now)) c.deref.ensures.value c.in_ok-has_failed.ensures.some.0 in
    let left : slice_get inside.left.items pass.place ≡ Some (Some its) = subst (λ (ls : List (Option Left)). slice_get ls pass.place ≡ Some (Some its)) c.deref-2.ensures.value c.in_ok-has_failed.ensures.some.1 in
    subst (λ (b : Told g.row.D.Denot). Collects {D = g.row.D.Denot} b pass c.args.wished.now (answer_of c.answer_left.result) (record book { left = c.take_away.new.left.items }) c.show.new.pass) c.self.view_is
    (record {
      has_failed = f;
      waiting = record { counted = counted; left = left };
      answer_is = c.answer_left.ensures;
      listed = c.self.invariant.are_left pass.place its left;
      shown = c.show.ensures.shown;
      count = c.show.ensures.count;
      conversation = c.show.ensures.conversation;
      place = c.show.ensures.place;
      book = ap (λ (ls : List (Option Left)). record book { left = ls }) c.take_away.ensures.left;
    })
