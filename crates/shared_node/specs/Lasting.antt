-- What lasts of what a desk answers.
use Rattle.std.specs.Prelude.{◌≡◌, ◌⊎◌, ℕ, Bool, true, false, IsTrue, List, ◌++◌, Some, slice_get}
use Rattle.drda_disk.specs.Disk.{Life}
use Rattle.core_calls.specs.Call.{Call}
use Rattle.core_calls.specs.Answer.{Answer}
use Rattle.core_model.specs.Step.{Mark, Taken}
use Rattle.serializability.specs.Answered.{AnsweredCall}
use Rattle.serializability.specs.Belonging.{is_excuse}
use Rattle.recovery.specs.Journaled.{OnDisk}
use Rattle.core_history.specs.declared.acted.Acted.{Acted}
use Rattle.core_history.specs.declared.pass.Pass.{Pass}
use Rattle.core_history.specs.Books.{IsKept, Told}
use Rattle.core_history.specs.Lasting.{Lasts}
use Rattle.core_history.specs.LeftAnswers.{calls_by}
use Rattle.turns.specs.declared.turn.Turn.{Turn}
use Rattle.shared_node.specs.Desks.{DeskAsks, ShowsNothing}
use Rattle.shared_node.specs.Locked.{Considers, GivesLeave, LaysAhead, Retires, UnderLock}
use Rattle.shared_node.specs.Turns.{TakesTurn}

-- ---- a book from one turn at the lock to a later one

-- the same book: it was opened over the same core, and what was listed is listed still, in its place
pub record IsLater {D : Type 0} (before after : Told D) : Type 0 where
  pub more : List AnsweredCall
  pub calls : after.calls ≡ before.calls ++ more
  pub opening : after.opening ≡ before.opening

-- whatever is done at the lock leaves the same book, and so do turns one after another
pub record TurnsGoOn {D : Type 0} (modelled : Bool) (life : D → Life) : Type 0 where
  pub given : (pass : Pass) (found left : Told D) → GivesLeave pass found left → IsLater found left
  pub asked : (pass after : Pass) (call : Call) (acted : Acted) (found left : Told D) → TakesTurn modelled life pass call acted after found left → IsLater found left
  pub retired : (pass : Pass) (is_taken : Bool) (found left : Told D) → Retires pass is_taken found left → IsLater found left
  pub rested : (turn : Turn) (found left : Told D) → Considers turn found left → IsLater found left
  pub laid : (found left : Told D) → LaysAhead found left → IsLater found left
  pub both : (first mid last : Told D) → IsLater first mid → IsLater mid last → IsLater first last

-- ---- an answer

-- the call with this number of that conversation was this one, and was answered so
abbrev pub IsListedAs : {D : Type 0} → Told D → ℕ → ℕ → Call → Mark → Answer → Type 0
IsListedAs book conversation number call mark answer =
    slice_get (calls_by conversation book.calls) number ≡ Some (record { conversation = conversation; call = call; mark = mark; answer = answer })

-- Of a kept book: the call is listed there with its answer; if that is no excuse the call's step was taken; and what is listed lasts.
pub record AnswerStands {D : Type 0} (modelled : Bool) (life : D → Life) (pass : Pass) (call : Call) (answer : Answer) (mark : Mark) (now : Told D) : Type 0 where
  pub listed : IsListedAs now pass.conversation pass.count call mark answer
  pub taken : IsTrue modelled → is_excuse answer ≡ false → mark ≡ Taken
  pub lasts : IsTrue modelled → now.opening.is_failed ≡ false → Lasts life now

-- Nothing was listed; or the answer stands in the book that was left, and in each kept one that it is later.
abbrev pub AnswerLasts : {D : Type 0} → Bool → (D → Life) → Pass → Call → Answer → Pass → Told D → Told D → Type 0
AnswerLasts modelled life pass call answer after found left =
    ShowsNothing pass answer after ⊎ ((mark : Mark) × ((now : Told _) → IsLater left now → IsKept modelled life now → AnswerStands modelled life pass call answer mark now))

-- What a desk answers lasts.
abbrev pub AnswersAreDurable : {D : Type 0} → Bool → (D → Life) → (OnDisk D → Type 0) → Type 0
AnswersAreDurable modelled life origin =
    (pass after : Pass) (call : Call) (answer : Answer) → DeskAsks modelled life origin pass call answer after → UnderLock modelled life origin (AnswerLasts modelled life pass call answer after)
