-- A command closes its conversation at a desk only where the core has failed, or does not know the pass: what a step answers can be
-- used, and so can what was left, and the excuses that there was no memory or no room.
use Rattle.std.proofs.Common.{◌≡◌, ◌⊎◌, inl, inr, ⊎_elim, ℕ, Bool, true, false, List, Option, Some, None, refl, sym, ◌∙◌, ap, subst}
use Rattle.drda_disk.specs.Disk.{Life}
use Rattle.xa_calls.specs.declared.request.Request.{Request}
use Rattle.xa_calls.specs.declared.request.Request.TheVariants as request
use Rattle.core_calls.specs.Call as call
use Rattle.core_calls.specs.Call.{Call}
use Rattle.core_calls.specs.Answer as told
use Rattle.core_calls.specs.Answer.{Answer, answer_of}
use Rattle.core_calls.specs.declared.call.Side.{Side}
use Rattle.core_calls.specs.declared.call.Side.TheVariants as side
use Rattle.serializability.specs.Belonging.{AnswersBelong, Belongs, IsSide, IsXaAnswer}
use Rattle.core_model.specs.Misread.{over}
use Rattle.recovery.specs.Journaled.{OnDisk, shown_on}
use Rattle.durable_core.specs.Steps.{IsExcused, Steps}
use Rattle.conversation.specs.Usable.{is_description, is_end, is_usable, is_xa_answer}
use Rattle.conversation.proofs.Failing.{only_unusable_answers}
use Rattle.core_history.specs.declared.acted.Acted.{Acted}
use Rattle.core_history.specs.declared.acted.Acted.TheVariants.{Answered, StrangerPass}
use Rattle.core_history.specs.declared.pass.Pass.{Pass}
use Rattle.unit_records.specs.declared.group_call.Asked.{Asked}
use Rattle.unit_records.specs.declared.group_call.Asked.TheVariants.{Commit, Through}
use Rattle.core_history.specs.Books.{Told}
use Rattle.core_history.specs.Passes.{Acts}
use Rattle.unit_records.specs.Together.{call_for}
use Rattle.core_history.specs.Wishes.{answer_wished}
use Rattle.shared_node.specs.Closing.{IsInVain, OnlyFailedCoresClose}
use Rattle.shared_node.specs.Desks.{DeskAsks, answer_told}
use Rattle.shared_node.specs.Turns.{IsCollected, TakesTurn}

-- ---- what belongs to a call can be used

side_usable : (d : Side) (a : Answer) → IsSide d a → is_description a ≡ true
side_usable side.Output a is = ap is_description is.1
side_usable side.Input a is = ap is_description is.1

xa_usable : (r : Option Request) (a : Answer) → IsXaAnswer r a → is_xa_answer r a ≡ true
xa_usable (Some request.Recover) a is = ap (is_xa_answer (Some request.Recover)) is.1
xa_usable (Some (request.Branch verb xid)) a is = ap (is_xa_answer (Some (request.Branch verb xid))) is.1
xa_usable None a is = ap (is_xa_answer None) is.1

end_usable : (a : Answer) → (a ≡ told.done) ⊎ (a ≡ told.in_global) → is_end a ≡ true
end_usable a is = ⊎_elim (λ e. ap is_end e) (λ e. ap is_end e) is

usable : (k : Call) (a : Answer) → Belongs k a → is_usable k a ≡ true
usable (call.run s params) a is = ⊎_elim (λ e. ap (is_usable (call.run s params)) e.1) (λ e. ap (is_usable (call.run s params)) e.1) is
usable (call.query s params) a is = ⊎_elim (λ e. ap (is_usable (call.query s params)) e.1) (λ e. ap (is_usable (call.query s params)) e.1) is
usable (call.describe s d) a is = ⊎_elim (side_usable d a) (λ e. ap is_description e.1) is
usable call.commit a is = end_usable a is
usable call.roll_back a is = end_usable a is
usable (call.xa r) a is = xa_usable r a is
usable call.lost a is = ap is_end is

-- ---- and so can these excuses, whatever was asked

xa_without_memory : (r : Option Request) → is_xa_answer r told.no_memory ≡ true
xa_without_memory (Some request.Recover) = refl
xa_without_memory (Some (request.Branch verb xid)) = refl
xa_without_memory None = refl

without_memory : (k : Call) → is_usable k told.no_memory ≡ true
without_memory (call.run s params) = refl
without_memory (call.query s params) = refl
without_memory (call.describe s d) = refl
without_memory call.commit = refl
without_memory call.roll_back = refl
without_memory (call.xa r) = xa_without_memory r
without_memory call.lost = refl

xa_without_room : (r : Option Request) (need room : ℕ) → is_xa_answer r (told.full need room) ≡ true
xa_without_room (Some request.Recover) need room = refl
xa_without_room (Some (request.Branch verb xid)) need room = refl
xa_without_room None need room = refl

without_room : (k : Call) (need room : ℕ) → is_usable k (told.full need room) ≡ true
without_room (call.run s params) need room = refl
without_room (call.query s params) need room = refl
without_room (call.describe s d) need room = refl
without_room call.commit need room = refl
without_room call.roll_back need room = refl
without_room (call.xa r) need room = xa_without_room r need room
without_room call.lost need room = refl

-- ---- what can't be used

abbrev SaysFailed : Answer → Type 0
SaysFailed a = (a ≡ told.closed) ⊎ (a ≡ told.device_failed)

both : {X : Type 0} (b : Bool) → b ≡ true → b ≡ false → X
both true so ne = absurd (let e : true ≡ false = ne in cc e)
both false so ne = absurd (let e : false ≡ true = so in cc e)

done_is_usable : (w : Asked) → is_usable (call_for w) (answer_wished w false) ≡ true
done_is_usable Commit = refl
done_is_usable (Through phase xid) = refl

left_says : (w : Asked) (f : Bool) (k : Call) (a : Answer) → k ≡ call_for w → a ≡ answer_wished w f → is_usable k a ≡ false → SaysFailed a
left_says w true k a call_is is unusable = inr is
left_says w false k a call_is is unusable = both (is_usable k a) (ap (λ (c : Call). is_usable c a) call_is ∙ ap (is_usable (call_for w)) is ∙ done_is_usable w) unusable

module _ {D : Type 0} (modelled : Bool) (life : D → Life) (belong : AnswersBelong) where
  excused_says : (at new : OnDisk D) (n : ℕ) (k : Call) (a : Answer) → is_usable k a ≡ false → IsExcused modelled (shown_on life at) n k a (shown_on life new) → SaysFailed a
  excused_says at new n k a unusable (inl x) = both (is_usable k a) (ap (is_usable k) x.answer_is ∙ without_memory k) unusable
  excused_says at new n k a unusable (inr (inl x)) = both (is_usable k a) (ap (is_usable k) x.answer_is ∙ without_room k _ _) unusable
  excused_says at new n k a unusable (inr (inr (inl x))) = inr x.answer_is
  excused_says at new n k a unusable (inr (inr (inr (inl x)))) = inr x.answer_is
  excused_says at new n k a unusable (inr (inr (inr (inr x)))) = inl x.answer_is

  steps_say : (at new : OnDisk D) (n : ℕ) (k : Call) (a : Answer) → is_usable k a ≡ false → Steps modelled (shown_on life at) n k a (shown_on life new) → SaysFailed a
  steps_say at new n k a unusable (inl t) = both (is_usable k a) (usable k a (subst (Belongs k) (sym t.answer_is) (belong at.state n k))) unusable
  steps_say at new n k a unusable (inr (inl t)) = both (is_usable k a) (usable k a (subst (Belongs k) (sym t.misread.answer_is) (belong (over t.misread.given at.state) n k))) unusable
  steps_say at new n k a unusable (inr (inr x)) = excused_says at new n k a unusable x

  own_says : (between behind : Told D) (pass after : Pass) (k : Call) (a : _) → is_usable k (answer_of a) ≡ false → Acts modelled life between pass k (Answered a) behind after ⊎ IsCollected between pass k (Answered a) behind after
      → SaysFailed (answer_of a)
  own_says between behind pass after k a unusable (inl (inl l)) = steps_say l.answered.at behind.core pass.conversation k (answer_of a) unusable l.answered.steps
  own_says between behind pass after k a unusable (inl (inr f)) = both (is_usable k (answer_of a)) (ap (is_usable k) f.answer_is ∙ without_memory k) unusable
  own_says between behind pass after k a unusable (inr c) = left_says c.0 c.2.has_failed k (answer_of a) c.1 c.2.answer_is unusable

  in_vain : (found left : Told D) (pass after : Pass) (k : Call) (acted : Acted) → is_usable k (answer_told acted) ≡ false → TakesTurn modelled life pass k acted after found left → IsInVain pass found left
  in_vain found left pass after k (Answered a) unusable t = inr (t.cause (own_says t.between t.behind pass after k a unusable t.own))
  in_vain found left pass after k StrangerPass unusable t = inl t.cause

pub only_failed_cores_close : {D : Type 0} (modelled : Bool) (life : D → Life) (origin : OnDisk D → Type 0) → AnswersBelong → OnlyFailedCoresClose modelled life origin
only_failed_cores_close modelled life origin belong settings s next command bytes does closed =
    let v = only_unusable_answers (DeskAsks modelled life origin) settings s next command bytes does closed in
    let asked = v.asked in
    let lock = asked.turn in
    record {
      found = lock.found;
      left = lock.left;
      is_of = lock.is_of;
      opening = lock.opening;
      was_kept = lock.was_kept;
      is_kept = lock.is_kept;
      journaled = lock.journaled;
      makes = in_vain modelled life belong lock.found lock.left s.asked next.asked v.call asked.acted (ap (is_usable v.call) (sym asked.answer_is) ∙ v.unusable) lock.makes;
    }
