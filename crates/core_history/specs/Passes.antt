-- Passes: what each call of a book makes of it and of a pass.
use Rattle.std.specs.Prelude.{◌≡◌, ◌≢◌, ◌⊎◌, ℕ, ◌+◌, ◌<◌, ◌≤◌, ◌^◌, Bool, ⊤, true, List, [], ◌∷◌, ◌++◌, Option, Some, None, slice_get, slice_set}
use Rattle.drda_disk.specs.Disk.{Life}
use Rattle.core_calls.specs.Call.{Call, lost}
use Rattle.core_calls.specs.Answer.{Answer, no_memory, answer_of}
use Rattle.core_model.specs.Step.{Mark}
use Rattle.serializability.specs.Answered.{AnsweredCall}
use Rattle.recovery.specs.Journaled.{OnDisk, shown_on}
use Rattle.durable_core.specs.Steps.{MayWantMemory, Steps}
use Rattle.core_history.specs.declared.acted.Acted.{Acted}
use Rattle.core_history.specs.declared.acted.Acted.TheVariants.{Answered, StrangerPass}
use Rattle.core_history.specs.declared.count.Count.{Count}
use Rattle.core_history.specs.declared.pass.Pass.{Pass}
use Rattle.core_history.specs.Books.{Told, calls_of}

-- the calls that were made with it, as the book listed them
abbrev pub calls_in : Pass → List AnsweredCall
calls_in pass = pass.calls.listed

-- how a conversation is counted whose pass this is
abbrev pub count_of : Pass → Count
count_of pass = record { conversation = pass.conversation; calls = pass.count }

-- the pass counts a call more, at its place
pub record IsOneMore (old new : Pass) : Type 0 where
  pub count : new.count ≡ old.count + 1
  pub conversation : new.conversation ≡ old.conversation
  pub place : new.place ≡ old.place

-- the book counts as many calls of the pass's conversation as the pass does
abbrev pub Knows : {D : Type 0} → Told D → Pass → Type 0
Knows book pass = slice_get book.places pass.place ≡ Some (Some (count_of pass))

-- ---- leave

-- Leave was given at a free place, under the next number, and no call was made with it.
pub record Admits {D : Type 0} (old : Told D) (pass : Pass) (new : Told D) : Type 0 where
  pub free : slice_get old.places pass.place ≡ Some None
  pub conversation : pass.conversation ≡ old.next
  pub none_made : pass.count ≡ 0
  pub no_calls : calls_in pass ≡ []
  pub left : old.next + 1 < 2 ^ 64
  pub book : new ≡ record old { places = slice_set old.places pass.place (Some (count_of pass)); next = old.next + 1 }

-- no place is free, or no number is left
abbrev pub HasNoLeave : {D : Type 0} → Told D → Type 0
HasNoLeave book = ((place : ℕ) → place < 64 → slice_get book.places place ≢ Some None) ⊎ (book.next + 1 ≡ 2 ^ 64)

-- a place is free again
abbrev pub retired : {D : Type 0} → Told D → Pass → Told D
retired book pass = record book { places = slice_set book.places pass.place None }

-- ---- all passes

-- one of the passes is at this place
abbrev pub IsAt : List Pass → ℕ → Type 0
IsAt passes place = (at : ℕ) × (pass : Pass) × (slice_get passes at ≡ Some pass) × (pass.place ≡ place)

-- each pass is counted as it counts itself, and no other one is at its place
abbrev pub AreKnown : List Pass → List (Option Count) → Type 0
AreKnown [] places = ⊤
AreKnown (pass ∷ passes) places = (slice_get places pass.place ≡ Some (Some (count_of pass))) × (IsAt passes pass.place → ⊥) × AreKnown passes places

-- there is a pass at each place that is taken
abbrev pub AreAll : List Pass → List (Option Count) → Type 0
AreAll passes places = (place : ℕ) (c : Count) → slice_get places place ≡ Some (Some c) → IsAt passes place

-- These passes are all that have leave, each once and counted as the book counts.
pub record AreJustAt (passes : List Pass) (places : List (Option Count)) : Type 0 where
  pub each : AreKnown passes places
  pub all : AreAll passes places

-- the book lists as many calls of each pass's conversation as the pass counts
abbrev pub AreListed : {D : Type 0} → List Pass → Told D → Type 0
AreListed passes book = (at : ℕ) (pass : Pass) → slice_get passes at ≡ Some pass → pass.count ≡ calls_of pass.conversation book.calls

abbrev pub AreJust : {D : Type 0} → List Pass → Told D → Type 0
AreJust passes book = AreJustAt passes book.places

-- ---- calls

-- Between two calls a core may write a checkpoint: its name, its state and its records stay.
pub record Rests {D : Type 0} (old new : OnDisk D) : Type 0 where
  pub name : new.name ≡ old.name
  pub state : new.state ≡ old.state
  pub made : new.made ≡ old.made
  pub failed : old.is_failed ≡ true → new.is_failed ≡ true

module _ {D : Type 0} (modelled : Bool) (life : D → Life) where
  -- The core answered the call by a step of its own, or by an excuse; perhaps behind a checkpoint.
  pub record IsAnswered (old : OnDisk D) (conversation : ℕ) (call : Call) (answer : Answer) (new : OnDisk D) : Type 0 where
    pub at : OnDisk D
    pub rests : Rests old at
    pub steps : Steps modelled (shown_on life at) conversation call answer (shown_on life new)

  -- The call is one more of the book's, of its conversation's and of the pass's, with the answer that was given.
  pub record Lists (old : Told D) (pass : Pass) (call : Call) (answer : Answer) (new : Told D) (after : Pass) : Type 0 where
    pub knows : Knows old pass
    pub there : answer ≢ no_memory
    pub answered : IsAnswered old.core pass.conversation call answer new.core
    pub mark : Mark
    pub calls : new.calls ≡ old.calls ++ record { conversation = pass.conversation; call = call; mark = mark; answer = answer } ∷ []
    pub shown : calls_in after ≡ calls_in pass ++ record { conversation = pass.conversation; call = call; mark = mark; answer = answer } ∷ []
    pub places : new.places ≡ slice_set old.places pass.place (Some (count_of after))
    pub count : after.count ≡ pass.count + 1
    pub conversation : after.conversation ≡ pass.conversation
    pub place : after.place ≡ pass.place
    pub opening : new.opening ≡ old.opening
    pub next : new.next ≡ old.next

  -- the core may have written a checkpoint; nothing is listed, and the pass is as it was
  pub record ListsNothing (old : Told D) (pass : Pass) (new : Told D) (after : Pass) : Type 0 where
    pub rests : Rests old.core new.core
    pub book : new ≡ record old { core = new.core }
    pub same : after ≡ pass

  -- Memory was refused to a call that may want some; or the conversation has no number left for a call, of which the last
  -- one is kept for its loss.
  pub record FindsNoMemory (old : Told D) (pass : Pass) (call : Call) (answer : Answer) (new : Told D) (after : Pass) : Type 0 where
    pub knows : Knows old pass
    pub answer_is : answer ≡ no_memory
    pub wants : MayWantMemory old.core.state pass.conversation call ⊎ (2 ^ 64 ≤ pass.count + 2)
    pub lost : call ≡ lost → pass.count + 1 ≡ 2 ^ 64
    pub nothing : ListsNothing old pass new after

  abbrev pub Acts : Told D → Pass → Call → Acted → Told D → Pass → Type 0
  Acts old pass call (Answered a) new after = Lists old pass call (answer_of a) new after ⊎ FindsNoMemory old pass call (answer_of a) new after
  Acts old pass call StrangerPass new after = (new ≡ old) × (after ≡ pass) × (Knows old pass → ⊥)
