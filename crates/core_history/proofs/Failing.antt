-- A core that has failed stays failed, and what is answered where it fails says so.
use Rattle.std.proofs.Common.{◌≡◌, ℕ, Bool, true, false, List, ◌∙◌, inl, inr}
use Rattle.drda_disk.specs.Disk.{Life}
use Rattle.core_calls.specs.Call.{Call}
use Rattle.core_calls.specs.Answer.{Answer}
use Rattle.recovery.specs.Journaled.{OnDisk, shown_on}
use Rattle.durable_core.specs.Steps.{IsExcused, Steps}
use Rattle.core_history.specs.declared.wish.Wish.{Wish}
use Rattle.core_history.specs.Gathered.{MakesTogether}
use Rattle.core_history.specs.Passes.{IsAnswered}

both : {X : Type 0} (b : Bool) → b ≡ true → b ≡ false → X
both true so ne = absurd (let e : true ≡ false = ne in cc e)
both false so ne = absurd (let e : false ≡ true = so in cc e)

module _ {D : Type 0} (modelled : Bool) (life : D → Life) where
  excused_still : (at new : OnDisk D) (n : ℕ) (k : Call) (a : Answer) → at.is_failed ≡ true → IsExcused modelled (shown_on life at) n k a (shown_on life new) → new.is_failed ≡ true
  excused_still at new n k a failed (inl x) = both at.is_failed failed x.going
  excused_still at new n k a failed (inr (inl x)) = both at.is_failed failed x.going
  excused_still at new n k a failed (inr (inr (inl x))) = x.failed
  excused_still at new n k a failed (inr (inr (inr (inl x)))) = x.failed
  excused_still at new n k a failed (inr (inr (inr (inr x)))) = x.same.is_failed ∙ failed

  steps_still : (at new : OnDisk D) (n : ℕ) (k : Call) (a : Answer) → at.is_failed ≡ true → Steps modelled (shown_on life at) n k a (shown_on life new) → new.is_failed ≡ true
  steps_still at new n k a failed (inl t) = both at.is_failed failed t.going
  steps_still at new n k a failed (inr (inl t)) = both at.is_failed failed t.going
  steps_still at new n k a failed (inr (inr x)) = excused_still at new n k a failed x

  pub answered_still : (old new : OnDisk D) (n : ℕ) (k : Call) (a : Answer) → IsAnswered modelled life old n k a new → old.is_failed ≡ true → new.is_failed ≡ true
  answered_still old new n k a w failed = steps_still w.at new n k a (w.rests.failed failed) w.steps

module _ {D : Type 0} (life : D → Life) where
  -- calls that are made together begin before the device has failed
  pub together_going : (old new : OnDisk D) (members : List Wish) (f : Bool) → MakesTogether life old members f new → old.is_failed ≡ false
  together_going old new members true m = m.going
  together_going old new members false m = m.going

  pub together_failed : (old new : OnDisk D) (members : List Wish) (f : Bool) → MakesTogether life old members f new → f ≡ true → new.is_failed ≡ true
  together_failed old new members true m is = m.failed
  together_failed old new members false m is = absurd (let e : false ≡ true = is in cc e)

  pub together_still : (old new : OnDisk D) (members : List Wish) (f : Bool) → MakesTogether life old members f new → old.is_failed ≡ true → new.is_failed ≡ true
  together_still old new members f m is = both old.is_failed is (together_going old new members f m)
