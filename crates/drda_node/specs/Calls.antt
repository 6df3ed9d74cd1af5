-- The calls that a machine asks of its core: what was really asked and answered, as a history that the law of serial order
-- speaks of.
use Rattle.std.specs.Prelude.{◌≡◌, ◌⊎◌, ℕ, true, List, [], ◌∷◌, ◌++◌}
use Rattle.core_calls.specs.Call.{Call}
use Rattle.core_calls.specs.Answer.{Answer}
use Rattle.core_model.specs.Step.{Kept, Mark, Taken, replay}
use Rattle.serializability.specs.Answered.{AnsweredCall, history_of}
use Rattle.drda_node.specs.Asking.{AskedCore, IsExcused, IsTaken, ReadsOthers}
use Rattle.drda_node.specs.Machine as machine
use Rattle.drda_node.specs.Machine.{Machine}
use Rattle.drda_node.specs.Hearing.{Attended, HearsAt}
use Rattle.drda_node.specs.Records.{Event}
use Rattle.drda_node.specs.Happening.{BreaksOff, HappenAll}

-- The answer and the step are the core's, over other rows where its device gave these; or an excuse was answered, and there was
-- no step.
abbrev pub IsAsked : Mark → AskedCore → ℕ → Call → Answer → AskedCore → Type 0
IsAsked Taken old conversation call answer new = IsTaken old conversation call answer new ⊎ ReadsOthers old conversation call answer new
IsAsked Kept old conversation call answer new = IsExcused old conversation call answer new

-- Between calls a core rests: its state, its records and its calls stay; a checkpoint may change its room, or the device may fail in it.
-- Once it has failed nothing changes.
pub record Rests (old new : AskedCore) : Type 0 where
  pub told : new.is_told ≡ old.is_told
  pub state : new.state ≡ old.state
  pub made : new.made ≡ old.made
  pub calls : new.calls ≡ old.calls
  pub failed : old.has_failed ≡ true → new ≡ old

-- these calls, in this order, lead from one core to the other
abbrev pub IsHistory : AskedCore → List AnsweredCall → AskedCore → Type 0
IsHistory old [] new = Rests old new
IsHistory old (a ∷ calls) new =
    (at between : AskedCore) × Rests old at × IsAsked a.mark at a.conversation a.call a.answer between × IsHistory between calls new

-- some calls do
abbrev pub HasHistory : AskedCore → AskedCore → Type 0
HasHistory old new = (calls : List AnsweredCall) × IsHistory old calls new

abbrev pub AreOf : ℕ → List AnsweredCall → Type 0
AreOf conversation [] = Unit {0}
AreOf conversation (a ∷ calls) = (a.conversation ≡ conversation) × AreOf conversation calls

-- what a machine does to its core is a history
pub record CallsAreHistories : Type 0 where
  -- of what one conversation hears, its own calls
  pub heard : (old new : Machine) (place : ℕ) (bytes replies : List ℕ) (after : Attended) → HearsAt old place bytes replies after new → (calls : List AnsweredCall) × AreOf place calls × IsHistory old.core calls new.core
  -- of a loss, one call
  pub lost : (old : Machine) (place : ℕ) → (calls : List AnsweredCall) × AreOf place calls × IsHistory old.core calls (machine.lost old place).core
  -- of events, the calls of all conversations in the order in which they were asked
  pub happened : (old new : Machine) (events : List Event) (written : List ℕ) → HappenAll old events written new → HasHistory old.core new.core
  pub begun : (old new : Machine) (event : Event) → BreaksOff old event new → HasHistory old.core new.core
  -- one after another
  pub both : (a b c : AskedCore) (before after : List AnsweredCall) → IsHistory a before b → IsHistory b after c → HasHistory a c
  -- the core has noted just these calls
  pub noted : (old new : AskedCore) (calls : List AnsweredCall) → IsHistory old calls new → new.calls ≡ old.calls ++ calls
  -- and of a device that gives back what was written a history leads where its replay leads
  pub replayed : (old new : AskedCore) (calls : List AnsweredCall) → old.is_told ≡ true → IsHistory old calls new → new.state ≡ replay (history_of calls) old.state
