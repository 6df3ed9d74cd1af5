-- Calls that are made together: what they make of a book, and how their conversations collect the answers.
use Rattle.std.specs.Prelude.{◌≡◌, ℕ, ◌+◌, ◌<◌, ◌^◌, Bool, List, [], ◌∷◌, ◌++◌, map, Option, Some, None, if◌then◌else◌, slice_get, slice_set}
use Rattle.drda_disk.specs.Disk.{Life}
use Rattle.core_calls.specs.Answer.{Answer}
use Rattle.serializability.specs.Answered.{AnsweredCall}
use Rattle.unit_records.specs.declared.group_call.GroupCall.{GroupCall}
use Rattle.recovery.specs.Journaled.{IsUnchanged, OnDisk, shown_on}
use Rattle.durable_core.specs.Together.{MakeTogether}
use Rattle.durable_core.specs.declared.together.Together.TheVariants.{DeviceFailed, Done}
use Rattle.core_history.specs.declared.count.Count.{Count}
use Rattle.core_history.specs.declared.left.Left.{Left}
use Rattle.core_history.specs.declared.pass.Pass.{Pass}
use Rattle.core_history.specs.declared.wish.Wish.{Wish}
use Rattle.unit_records.specs.declared.group_call.Asked.{Asked}
use Rattle.core_history.specs.LeftAnswers.{calls_by}
use Rattle.core_history.specs.Wishes.{answer_wished, listed_wish}
use Rattle.core_history.specs.Books.{Told}
use Rattle.core_history.specs.Passes.{calls_in}

-- ---- collecting

-- the book counts one call more than the pass, and its answer is left
pub record IsWaiting {D : Type 0} (book : Told D) (pass : Pass) (wished : Asked) (has_failed : Bool) : Type 0 where
  pub counted : slice_get book.places pass.place ≡ Some (Some (record { conversation = pass.conversation; calls = pass.count + 1 }))
  pub left : slice_get book.left pass.place ≡ Some (Some (record { conversation = pass.conversation; number = pass.count; wished = wished; has_failed = has_failed }))

-- The pass shows what was wished for, which the book lists as its next call, with that answer, and the answer is left no
-- longer.
pub record Collects {D : Type 0} (old : Told D) (pass : Pass) (wished : Asked) (answer : Answer) (new : Told D) (after : Pass) : Type 0 where
  pub has_failed : Bool
  pub waiting : IsWaiting old pass wished has_failed
  pub answer_is : answer ≡ answer_wished wished has_failed
  pub listed : slice_get (calls_by pass.conversation old.calls) pass.count ≡ Some (listed_wish pass.conversation wished has_failed)
  pub shown : calls_in after ≡ calls_in pass ++ listed_wish pass.conversation wished has_failed ∷ []
  pub count : after.count ≡ pass.count + 1
  pub conversation : after.conversation ≡ pass.conversation
  pub place : after.place ≡ pass.place
  pub book : new ≡ record old { left = slice_set old.left pass.place None }

-- what is wished for is not left as its next call
pub record CollectsNothing {D : Type 0} (old : Told D) (pass : Pass) (wished : Asked) (new : Told D) (after : Pass) : Type 0 where
  pub none : (has_failed : Bool) → IsWaiting old pass wished has_failed → ⊥
  pub book : new ≡ old
  pub same : after ≡ pass

-- ---- wishes

-- how a conversation is counted that has this wish
abbrev pub count_at : Wish → Count
count_at wish = record { conversation = wish.conversation; calls = wish.count }

-- the book counts the conversation as the wish does, and there is a number left for the call
pub record IsKnown (places : List (Option Count)) (wish : Wish) : Type 0 where
  pub counted : slice_get places wish.place ≡ Some (Some (count_at wish))
  pub numbered : wish.count + 2 < 2 ^ 64

-- and it was asked for
pub record IsMember (places : List (Option Count)) (wishes : List Wish) (wish : Wish) : Type 0 where
  pub asked : (at : ℕ) × (slice_get wishes at ≡ Some wish)
  pub known : slice_get places wish.place ≡ Some (Some (count_at wish))
  pub numbered : wish.count + 2 < 2 ^ 64

-- a wish at the pass's place is that it waits to ask this as its next call
abbrev pub Agrees : Pass → Asked → Wish → Type 0
Agrees pass wished wish = wish.place ≡ pass.place → (wish.conversation ≡ pass.conversation) × (wish.count ≡ pass.count) × (wish.wished ≡ wished)

abbrev pub AreMembers : List (Option Count) → List Wish → List Wish → Type 0
AreMembers places wishes members = (at : ℕ) (wish : Wish) → slice_get members at ≡ Some wish → IsMember places wishes wish

-- no two are at one place
abbrev pub AreApart : List Wish → Type 0
AreApart members = (here there : ℕ) (v w : Wish) → slice_get members here ≡ Some v → slice_get members there ≡ Some w → v.place ≡ w.place → here ≡ there

-- what they ask of the core
abbrev pub group_of : List Wish → List GroupCall
group_of members = map (λ (w : Wish). record { conversation = w.conversation; asked = w.wished }) members

-- ---- calls that are made together

-- as the book lists them
abbrev pub all_listed : Bool → List Wish → List AnsweredCall
all_listed has_failed members = map (λ (w : Wish). listed_wish w.conversation w.wished has_failed) members

-- each has made one call more
abbrev pub all_counted : List Wish → List (Option Count) → List (Option Count)
all_counted [] places = places
all_counted (w ∷ ws) places = all_counted ws (slice_set places w.place (Some (record { conversation = w.conversation; calls = w.count + 1 })))

-- and its answer is left for it
abbrev pub all_left : Bool → List Wish → List (Option Left) → List (Option Left)
all_left has_failed [] left = left
all_left has_failed (w ∷ ws) left = all_left has_failed ws (slice_set left w.place (Some (record { conversation = w.conversation; number = w.count; wished = w.wished; has_failed = has_failed })))

-- all of it, at once
pub record ListsAll (has_failed : Bool) (members : List Wish) (listed listed' : List AnsweredCall) (counts counts' : List (Option Count)) (answers answers' : List (Option Left)) : Type 0 where
  pub calls : listed' ≡ listed ++ all_listed has_failed members
  pub places : counts' ≡ all_counted members counts
  pub left : answers' ≡ all_left has_failed members answers

module _ {D : Type 0} (life : D → Life) where
  -- the core makes them together, or the device fails at it
  abbrev pub MakesTogether : OnDisk D → List Wish → Bool → OnDisk D → Type 0
  MakesTogether old members has_failed new = MakeTogether (shown_on life old) (group_of members) (if has_failed then DeviceFailed else Done) (shown_on life new)

  -- nothing was done
  pub record GathersNone (old new : Told D) : Type 0 where
    pub same : IsUnchanged (shown_on life old.core) (shown_on life new.core)
    pub book : new ≡ record old { core = new.core }

  -- Some of the wishes were fulfilled together, or the device failed at it. Each is listed with its answer, one after another,
  -- and the answer is left for its conversation.
  pub record Gathers (old : Told D) (wishes : List Wish) (new : Told D) : Type 0 where
    pub members : List Wish
    pub each : AreMembers old.places wishes members
    pub apart : AreApart members
    pub has_failed : Bool
    pub core : MakesTogether old.core members has_failed new.core
    pub calls : new.calls ≡ old.calls ++ all_listed has_failed members
    pub places : new.places ≡ all_counted members old.places
    pub left : new.left ≡ all_left has_failed members old.left
    pub opening : new.opening ≡ old.opening
    pub next : new.next ≡ old.next
