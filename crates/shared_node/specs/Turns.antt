-- A turn at the lock: what one call of a pass makes of the book that it finds. Calls of those who wait may be made together
-- before; then the pass's own call is made, or collected; and a checkpoint may be written.
use Rattle.std.specs.Prelude.{◌≡◌, ◌⊎◌, ℕ, ◌+◌, ◌<◌, ◌^◌, Bool, true, List, [], ◌∷◌, ◌++◌, map, option_map, Option, Some, None}
use Rattle.drda_disk.specs.Disk.{Life}
use Rattle.core_calls.specs.Call.{Call, lost}
use Rattle.core_calls.specs.Answer.{Answer, answer_of, closed, device_failed}
use Rattle.core_model.specs.Step.{Mark}
use Rattle.serializability.specs.Answered.{AnsweredCall}
use Rattle.core_history.specs.declared.acted.Acted.{Acted}
use Rattle.core_history.specs.declared.acted.Acted.TheVariants.{Answered, StrangerPass}
use Rattle.core_history.specs.declared.count.Count.{Count}
use Rattle.core_history.specs.declared.pass.Pass.{Pass}
use Rattle.core_history.specs.declared.wish.Wish.{Wish}
use Rattle.unit_records.specs.declared.group_call.Asked.{Asked}
use Rattle.core_history.specs.Books.{Told}
use Rattle.core_history.specs.Gathered.{Collects, Gathers, GathersNone}
use Rattle.core_history.specs.Passes.{Acts, Knows, Rests}
use Rattle.unit_records.specs.Together.{call_for}

-- ---- what stays

-- whose leave it is at a place, if anybody's
abbrev pub holder : Option Count → Option ℕ
holder place = option_map (λ (c : Count). c.conversation) place

-- these calls more are listed; each place is left to whom it was, or to nobody; the opening and the next number are as they were
pub record GoesOn {D : Type 0} (found : Told D) (more : List AnsweredCall) (left : Told D) : Type 0 where
  pub calls : left.calls ≡ found.calls ++ more
  pub holders : map holder left.places ≡ map holder found.places
  pub opening : left.opening ≡ found.opening
  pub next : left.next ≡ found.next

module _ {D : Type 0} (life : D → Life) where
  -- ---- those who wait

  -- those of the wishes that can be are fulfilled together, where that is possible
  abbrev pub Fulfils : List Wish → Told D → Told D → Type 0
  Fulfils wishes old new = GathersNone life old new ⊎ Gathers life old wishes new

  -- some wishes are fulfilled, or none are looked at
  abbrev pub MayFulfil : Told D → Told D → Type 0
  MayFulfil old new = (new ≡ old) ⊎ ((wishes : List Wish) × Fulfils wishes old new)

-- ---- its own call

-- the call was made with those of others, and the answer was left
abbrev pub IsCollected : {D : Type 0} → Told D → Pass → Call → Acted → Told D → Pass → Type 0
IsCollected old pass call (Answered a) new after = (wished : Asked) × (call ≡ call_for wished) × Collects old pass wished (answer_of a) new after
IsCollected old pass call StrangerPass new after = ⊥

-- the call is listed, once, or nothing is
abbrev pub IsOwn : Pass → Call → Acted → List AnsweredCall → Type 0
IsOwn pass call (Answered a) more = (more ≡ []) ⊎ ((mark : Mark) × (more ≡ record { conversation = pass.conversation; call = call; mark = mark; answer = answer_of a } ∷ []))
IsOwn pass call StrangerPass more = more ≡ []

-- that the device failed is answered, or had been answered, only where the core has failed
abbrev pub HasCause : {D : Type 0} → Told D → Pass → Acted → Told D → Type 0
HasCause found pass (Answered a) left = (answer_of a ≡ closed) ⊎ (answer_of a ≡ device_failed) → left.core.is_failed ≡ true
HasCause found pass StrangerPass left = Knows found pass → ⊥

-- ---- a turn

pub record TakesTurn {D : Type 0} (modelled : Bool) (life : D → Life) (pass : Pass) (call : Call) (acted : Acted) (after : Pass) (found left : Told D) : Type 0 where
  -- the book before and behind its own call
  pub between : Told D
  pub behind : Told D
  pub waited : MayFulfil life found between
  pub own : Acts modelled life between pass call acted behind after ⊎ IsCollected between pass call acted behind after
  pub rests : Rests behind.core left.core
  pub rest : left ≡ record behind { core = left.core }
  -- so: what was listed, and why nothing was done
  pub together : List AnsweredCall
  pub its : List AnsweredCall
  pub goes_on : GoesOn found (together ++ its) left
  pub is_own : IsOwn pass call acted its
  pub cause : HasCause found pass acted left
