-- What an ask of a desk makes of its pass, and of the book that it finds.
use Rattle.std.specs.Prelude.{◌≡◌, ◌⊎◌, ◌+◌, Bool, [], ◌∷◌, ◌++◌}
use Rattle.drda_disk.specs.Disk.{Life}
use Rattle.core_calls.specs.Call.{Call}
use Rattle.recovery.specs.Journaled.{OnDisk}
use Rattle.core_calls.specs.Answer.{Answer, answer_of, closed, no_memory}
use Rattle.core_model.specs.Step.{Mark}
use Rattle.core_history.specs.declared.acted.Acted.{Acted}
use Rattle.core_history.specs.declared.acted.Acted.TheVariants.{Answered, StrangerPass}
use Rattle.core_history.specs.declared.pass.Pass.{Pass}
use Rattle.core_history.specs.Passes.{calls_in}
use Rattle.shared_node.specs.Locked.{UnderLock}
use Rattle.shared_node.specs.Turns.{TakesTurn}

-- the pass shows the call and its answer as the last that was listed, and counts one more
pub record Shows (old : Pass) (call : Call) (answer : Answer) (new : Pass) : Type 0 where
  pub mark : Mark
  pub shown : calls_in new ≡ calls_in old ++ record { conversation = old.conversation; call = call; mark = mark; answer = answer } ∷ []
  pub count : new.count ≡ old.count + 1
  pub conversation : new.conversation ≡ old.conversation
  pub place : new.place ≡ old.place

-- memory was refused, or the pass is a stranger's: nothing is listed
pub record ShowsNothing (old : Pass) (answer : Answer) (new : Pass) : Type 0 where
  pub answer_is : (answer ≡ no_memory) ⊎ (answer ≡ closed)
  pub same : new ≡ old

abbrev pub DeskShows : Pass → Call → Answer → Pass → Type 0
DeskShows old call answer new = Shows old call answer new ⊎ ShowsNothing old answer new

-- where the pass is a stranger's nothing is done
abbrev pub DeskActs : Pass → Call → Acted → Pass → Type 0
DeskActs old call (Answered a) new = DeskShows old call (answer_of a) new
DeskActs old call StrangerPass new = new ≡ old

-- what is answered
abbrev pub answer_told : Acted → Answer
answer_told (Answered a) = answer_of a
answer_told StrangerPass = closed

-- the answer is that of a turn at the lock, in which the call was made on the book that was found; and the pass shows it
pub record DeskAsks {D : Type 0} (modelled : Bool) (life : D → Life) (origin : OnDisk D → Type 0) (old : Pass) (call : Call) (answer : Answer) (new : Pass) : Type 0 where
  pub shows : DeskShows old call answer new
  pub acted : Acted
  pub answer_is : answer ≡ answer_told acted
  pub turn : UnderLock modelled life origin (TakesTurn modelled life old call acted new)
