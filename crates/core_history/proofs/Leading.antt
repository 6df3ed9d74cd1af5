-- A call that is listed leads from the core before it to the core behind it.
use Rattle.std.proofs.Common.{◌≡◌, ℕ, Bool, IsTrue, true, false, ◌∷◌, [], ◌++◌, List, if◌then◌else◌, refl, sym, ap, subst, ◌∙◌, inl, inr}
use Rattle.std.proofs.lemmas.Bool.{false≢true}
use Rattle.drda_disk.specs.Disk.{Life}
use Rattle.core_calls.specs.Call.{Call, lost}
use Rattle.core_calls.specs.Answer.{Answer, closed, device_failed, full, no_memory}
use Rattle.core_model.specs.Step.{CoreState, Kept, Taken, step_by}
use Rattle.serializability.specs.Answered.{AnsweredCall, CallsLead, CallsLeadOn, IsAnswer}
use Rattle.serializability.specs.Belonging.{AnswersBelong, Belongs, ExcusesBelongToNone, is_excuse}
use Rattle.recovery.specs.Journaled.{IsRead, IsUnchanged, OnDisk, shown_on}
use Rattle.core_model.specs.Misread.{over}
use Rattle.durable_core.specs.Steps.{IsExcused, IsTaken, MayWantMemory, ReadsOthers, Steps}
use Rattle.core_history.specs.Passes.{IsAnswered, Rests}

wants_none : (s : CoreState) (n : ℕ) → MayWantMemory s n lost → ⊥
wants_none s n (inl w) = cc w
wants_none s n (inr w) = w refl

module _ {D : Type 0} (modelled : Bool) (life : D → Life) where
  rests_at : (old : OnDisk D) → Rests old old
  rests_at old = record { name = refl; state = refl; made = refl; failed = λ e. e }

  pub rests_then : (a b c : OnDisk D) → Rests a b → Rests b c → Rests a c
  rests_then a b c p q = record { name = q.name ∙ p.name; state = q.state ∙ p.state; made = q.made ∙ p.made; failed = λ e. q.failed (p.failed e) }

  unchanged : (old new : OnDisk D) → IsUnchanged (shown_on life old) (shown_on life new) → Rests old new
  unchanged old new u = record { name = u.name; state = u.state; made = u.made; failed = λ e. u.is_failed ∙ e }

  only_read : (old new : OnDisk D) → IsRead (shown_on life old) (shown_on life new) → Rests old new
  only_read old new u = record { name = u.name; state = u.state; made = u.made; failed = λ e. u.is_failed ∙ e }

  -- ---- what the core answers

  -- a call is answered at once
  pub at_once : (old new : OnDisk D) (n : ℕ) (k : Call) (a : Answer) → Steps modelled (shown_on life old) n k a (shown_on life new) → IsAnswered modelled life old n k a new
  at_once old new n k a steps = record { at = old; rests = rests_at old; steps = steps }

  pub excuse_is : (old new : OnDisk D) (n : ℕ) (k : Call) (a : Answer) → IsExcused modelled (shown_on life old) n k a (shown_on life new) → (is_excuse a ≡ true) × (new.state ≡ old.state)
  excuse_is old new n k a (inl x) = (ap is_excuse x.answer_is, x.same.state)
  excuse_is old new n k a (inr (inl x)) = (ap is_excuse x.answer_is, x.same.state)
  excuse_is old new n k a (inr (inr (inl x))) = (ap is_excuse x.answer_is, x.state)
  excuse_is old new n k a (inr (inr (inr (inl x)))) = (ap is_excuse x.answer_is, x.state)
  excuse_is old new n k a (inr (inr (inr (inr x)))) = (ap is_excuse x.answer_is, x.same.state)

  -- where it is answered that there is no room, or no memory, nothing has changed
  full_rests : (old new : OnDisk D) (n : ℕ) (k : Call) (a : Answer) (need room : ℕ) → a ≡ full need room → IsExcused modelled (shown_on life old) n k a (shown_on life new) → Rests old new
  full_rests old new n k a need room is (inl x) = only_read old new x.same
  full_rests old new n k a need room is (inr (inl x)) = unchanged old new x.same
  full_rests old new n k a need room is (inr (inr (inl x))) = let both : full need room ≡ device_failed = sym is ∙ x.answer_is in absurd (cc both)
  full_rests old new n k a need room is (inr (inr (inr (inl x)))) = let both : full need room ≡ device_failed = sym is ∙ x.answer_is in absurd (cc both)
  full_rests old new n k a need room is (inr (inr (inr (inr x)))) = unchanged old new x.same

  wants : (old new : OnDisk D) (n : ℕ) (k : Call) (a : Answer) → a ≡ no_memory → IsExcused modelled (shown_on life old) n k a (shown_on life new) → Rests old new × MayWantMemory old.state n k
  wants old new n k a is (inl x) = (only_read old new x.same, x.wanting)
  wants old new n k a is (inr (inl x)) = let both = sym is ∙ x.answer_is in absurd (cc both)
  wants old new n k a is (inr (inr (inl x))) = let both : no_memory ≡ device_failed = sym is ∙ x.answer_is in absurd (cc both)
  wants old new n k a is (inr (inr (inr (inl x)))) = let both : no_memory ≡ device_failed = sym is ∙ x.answer_is in absurd (cc both)
  wants old new n k a is (inr (inr (inr (inr x)))) = let both : no_memory ≡ closed = sym is ∙ x.answer_is in absurd (cc both)

  module _ (belong : AnswersBelong) (excuses : ExcusesBelongToNone) where
    -- a step that is taken is no excuse
    pub no_excuse : (old new : OnDisk D) (n : ℕ) (k : Call) (a : Answer) → IsTaken (shown_on life old) n k a (shown_on life new) → is_excuse a ≡ true → ⊥
    no_excuse old new n k a t is = excuses k a is (subst (λ (x : Answer). Belongs k x) (sym t.answer_is) (belong old.state n k))

    -- nor is one over other rows
    no_excuse_there : (old new : OnDisk D) (n : ℕ) (k : Call) (a : Answer) → ReadsOthers modelled (shown_on life old) n k a (shown_on life new) → is_excuse a ≡ true → ⊥
    no_excuse_there old new n k a t is = excuses k a is (subst (λ (x : Answer). Belongs k x) (sym t.misread.answer_is) (belong (over t.misread.given old.state) n k))

    -- no room, then a checkpoint, then the call once more
    pub again : (old mid at new : OnDisk D) (n : ℕ) (k : Call) (first a : Answer) (need room : ℕ) → first ≡ full need room → Steps modelled (shown_on life old) n k first (shown_on life mid) → Rests mid at
        → Steps modelled (shown_on life at) n k a (shown_on life new) → IsAnswered modelled life old n k a new
    again old mid at new n k first a need room is (inl t) rests steps = absurd (no_excuse old mid n k first t (ap is_excuse is))
    again old mid at new n k first a need room is (inr (inl t)) rests steps = absurd (no_excuse_there old mid n k first t (ap is_excuse is))
    again old mid at new n k first a need room is (inr (inr x)) rests steps = record { at = at; rests = rests_then old mid at (full_rests old mid n k first need room is x) rests; steps = steps }

    -- ---- no memory

    rested : (old new : OnDisk D) (n : ℕ) (k : Call) (a : Answer) → a ≡ no_memory → (w : IsAnswered modelled life old n k a new) → Steps modelled (shown_on life w.at) n k a (shown_on life new) → Rests old new × MayWantMemory old.state n k
    rested old new n k a is w (inl t) = absurd (no_excuse w.at new n k a t (ap is_excuse is))
    rested old new n k a is w (inr (inl t)) = absurd (no_excuse_there w.at new n k a t (ap is_excuse is))
    rested old new n k a is w (inr (inr x)) =
        let (rests, wanting) = wants w.at new n k a is x in
        (rests_then old w.at new w.rests rests, subst (λ (s : CoreState). MayWantMemory s n k) w.rests.state wanting)

    pub finds_no_memory : (old new : OnDisk D) (n : ℕ) (k : Call) (a : Answer) → a ≡ no_memory → IsAnswered modelled life old n k a new → Rests old new × MayWantMemory old.state n k
    finds_no_memory old new n k a is w = rested old new n k a is w w.steps

    -- ---- the history

    steps_by : IsTrue modelled → (at new : OnDisk D) (n : ℕ) (k : Call) (a : Answer) (t : Bool) → (t ≡ true → is_excuse a ≡ false) → (t ≡ false → is_excuse a ≡ true) → Steps modelled (shown_on life at) n k a (shown_on life new)
        → IsAnswer (if t then Taken else Kept) at.state n k a × (new.state ≡ step_by (if t then Taken else Kept) at.state n k)
    steps_by told at new n k a true done excused (inl t) = (t.answer_is, t.state)
    steps_by told at new n k a true done excused (inr (inl t)) = absurd (false≢true (sym t.untold ∙ told))
    steps_by told at new n k a true done excused (inr (inr x)) = let (is, same) = excuse_is at new n k a x in let both : true ≡ false = sym is ∙ done refl in absurd (cc both)
    steps_by told at new n k a false done excused (inl t) = absurd (no_excuse at new n k a t (excused refl))
    steps_by told at new n k a false done excused (inr (inl t)) = absurd (false≢true (sym t.untold ∙ told))
    steps_by told at new n k a false done excused (inr (inr x)) = excuse_is at new n k a x

    pub leads_on : IsTrue modelled → CallsLeadOn → (first : CoreState) (calls : List AnsweredCall) (old new : OnDisk D) (n : ℕ) (k : Call) (a : Answer) (t : Bool) → (t ≡ true → is_excuse a ≡ false) → (t ≡ false → is_excuse a ≡ true)
        → CallsLead first calls old.state → IsAnswered modelled life old n k a new
        → CallsLead first (calls ++ record { conversation = n; call = k; mark = if t then Taken else Kept; answer = a } ∷ []) new.state
    leads_on told on first calls old new n k a t done excused lead w =
        let l : AnsweredCall = record { conversation = n; call = k; mark = if t then Taken else Kept; answer = a } in
        let (is, state) = steps_by told w.at new n k a t done excused w.steps in
        on.both first w.at.state new.state calls (l ∷ []) (subst (λ (s : CoreState). CallsLead first calls s) (sym w.rests.state) lead)
        (subst (λ (s : CoreState). CallsLead w.at.state (l ∷ []) s) (sym state) (on.one w.at.state l is))

  -- a loss wants no memory
  pub lost_wants_none : (s : CoreState) (n : ℕ) (k : Call) → k ≡ lost → MayWantMemory s n k → ⊥
  lost_wants_none s n k is wanting = wants_none s n (subst (λ (x : Call). MayWantMemory s n x) is wanting)
