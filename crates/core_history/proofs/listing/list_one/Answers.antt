use Rattle.std.proofs.Common.{◌+◌, List, Some, refl, slice_set, sym, subst}
use Rattle.serializability.specs.Answered.{AnsweredCall}
use Rattle.core_history.specs.declared.count.Count.{Count}
use Rattle.core_history.specs.declared.left.Left.{Left}
use Rattle.core_history.specs.LeftAnswers.{AreLeft}
use Rattle.core_history.specs.Wishes.{listed_wish}
use Rattle.core_history.specs.Books.{AreCounted}
use Rattle.core_history.specs.Gathered.{count_at}
use Rattle.core_history.proofs.Counting.{one_more}
use Rattle.core_history.proofs.Leaving.{left_more, true_more}
use Rattle.core_history.proofs.listing.list_one.Goals as goal

pub returns-clause-counted : goal.returns-clause-counted
returns-clause-counted c next counted =
    let w = c.args.member.now in
    let places = c.args.places.now.items in
    let now : Count = record { conversation = w.conversation; calls = w.count + 1 } in
    subst (λ (ls : List AnsweredCall). AreCounted ls (slice_set places w.place (Some now)) next) (sym c.note_wish.ensures)
    (one_more c.args.calls.now.listed places next counted w.place (count_at w) now (listed_wish w.conversation w.wished c.args.has_failed) c.requires.known refl refl refl)

pub returns-clause-are_left : goal.returns-clause-are_left
returns-clause-are_left c next counted are =
    let w = c.args.member.now in
    let left = c.args.left.now.items in
    let now : Left = record { conversation = w.conversation; number = w.count; wished = w.wished; has_failed = c.args.has_failed } in
    subst (λ (ls : List AnsweredCall). AreLeft ls (slice_set left w.place (Some now))) (sym c.note_wish.ensures)
    (left_more c.args.calls.now.listed c.args.places.now.items next counted left are w.place (count_at w) c.requires.known w.wished c.args.has_failed)

pub returns-clause-failures : goal.returns-clause-failures
returns-clause-failures c b is are =
    let w = c.args.member.now in
    let now : Left = record { conversation = w.conversation; number = w.count; wished = w.wished; has_failed = c.args.has_failed } in
    true_more b c.args.left.now.items w.place now is are
