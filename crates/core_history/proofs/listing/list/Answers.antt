use Rattle.std.proofs.Common.{◌+◌, List, Some, refl, slice_set, sym, subst}
use Rattle.serializability.specs.Answered.{AnsweredCall}
use Rattle.core_history.specs.declared.count.Count.{Count}
use Rattle.core_history.specs.Books.{AreCounted}
use Rattle.core_history.specs.Passes.{count_of}
use Rattle.core_history.specs.LeftAnswers.{AreLeft}
use Rattle.core_history.proofs.Counting.{one_more}
use Rattle.core_history.proofs.Leaving.{left_still}
use Rattle.core_history.proofs.listing.list.Goals as goal

pub returns-clause-counted : goal.returns-clause-counted
returns-clause-counted c next counted =
    let pass = c.args.pass.now in
    let places = c.args.places.now.items in
    let now : Count = record { conversation = pass.conversation; calls = pass.count + 1 } in
    subst (λ (ls : List AnsweredCall). AreCounted ls (slice_set places pass.place (Some now)) next) (sym c.note.ensures)
    (one_more c.args.calls.now.listed places next counted pass.place (count_of pass) now _ c.requires.here refl refl refl)

pub returns-clause-left : goal.returns-clause-left
returns-clause-left c left are = subst (λ (ls : List AnsweredCall). AreLeft ls left) (sym c.note.ensures) (left_still c.args.calls.now.listed _ left are)
