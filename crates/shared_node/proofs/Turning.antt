-- A turn at the lock: what is listed in it, and why nothing is done where nothing is.
use Rattle.std.proofs.Common.{◌≡◌, ◌⊎◌, ◌+◌, ⊎_elim, ℕ, Bool, true, false, List, [], ◌∷◌, ◌++◌, map, Option, Some, None, slice_get, append-nil, append_assoc, refl, sym, ap, subst, ◌∙◌, inl, inr}
use Rattle.drda_disk.specs.Disk.{Life}
use Rattle.xa_calls.specs.declared.code.XaCode.TheVariants as code
use Rattle.core_calls.specs.Call.{Call}
use Rattle.core_calls.specs.Answer.{Answer, answer_of, closed, device_failed, done, full, no_memory, xa}
use Rattle.serializability.specs.Answered.{AnsweredCall}
use Rattle.serializability.specs.Belonging.{AnswersBelong, Belongs, ExcusesBelongToNone, is_excuse}
use Rattle.core_model.specs.Misread.{over}
use Rattle.recovery.specs.Journaled.{OnDisk, shown_on}
use Rattle.durable_core.specs.Steps.{IsExcused, Steps}
use Rattle.core_history.specs.declared.acted.Acted.{Acted}
use Rattle.core_history.specs.declared.acted.Acted.TheVariants.{Answered, StrangerPass}
use Rattle.core_history.specs.declared.count.Count.{Count}
use Rattle.core_history.specs.declared.pass.Pass.{Pass}
use Rattle.unit_records.specs.declared.group_call.Asked.{Asked}
use Rattle.unit_records.specs.declared.group_call.Asked.TheVariants.{Commit, Through}
use Rattle.core_history.specs.Books.{IsKept, Told}
use Rattle.core_history.specs.Gathered.{Collects, CollectsNothing}
use Rattle.core_history.specs.Passes.{Acts, IsAnswered, Knows, Rests, count_of}
use Rattle.unit_records.specs.Together.{call_for}
use Rattle.core_history.specs.Wishes.{answer_wished}
use Rattle.core_history.proofs.Leading.{rests_then}
use Rattle.shared_node.specs.Standing.{Stands}
use Rattle.shared_node.specs.Turns.{GoesOn, HasCause, IsCollected, IsOwn, MayFulfil, TakesTurn, holder}
use Rattle.shared_node.proofs.Holding.{goes_both, goes_core, held_at, set_held, waited_goes}

-- ---- what says that the device failed

abbrev SaysFailed : Answer → Type 0
SaysFailed a = (a ≡ closed) ⊎ (a ≡ device_failed)

an_excuse : (a : Answer) → SaysFailed a → is_excuse a ≡ true
an_excuse a (inl is) = ap is_excuse is
an_excuse a (inr is) = ap is_excuse is

not_memory : {X : Type 0} (a : Answer) → SaysFailed a → a ≡ no_memory → X
not_memory a (inl is) so = absurd (let both : closed ≡ no_memory = sym is ∙ so in cc both)
not_memory a (inr is) so = absurd (let both : device_failed ≡ no_memory = sym is ∙ so in cc both)

not_full : {X : Type 0} (a : Answer) (need room : ℕ) → SaysFailed a → a ≡ full need room → X
not_full a need room (inl is) so = absurd (let both : closed ≡ full need room = sym is ∙ so in cc both)
not_full a need room (inr is) so = absurd (let both : device_failed ≡ full need room = sym is ∙ so in cc both)

not_done : {X : Type 0} (a : Answer) → SaysFailed a → a ≡ done → X
not_done a (inl is) so = absurd (let both : closed ≡ done = sym is ∙ so in cc both)
not_done a (inr is) so = absurd (let both : device_failed ≡ done = sym is ∙ so in cc both)

not_xa : {X : Type 0} (a : Answer) → SaysFailed a → a ≡ xa code.Done → X
not_xa a (inl is) so = absurd (let both : closed ≡ xa code.Done = sym is ∙ so in cc both)
not_xa a (inr is) so = absurd (let both : device_failed ≡ xa code.Done = sym is ∙ so in cc both)

left_failed : (w : Asked) (f : Bool) (a : Answer) → SaysFailed a → a ≡ answer_wished w f → f ≡ true
left_failed w true a says is = refl
left_failed Commit false a says is = not_done a says is
left_failed (Through phase xid) false a says is = not_xa a says is

module _ {D : Type 0} (modelled : Bool) (life : D → Life) where
  -- ---- its own call

  abbrev Owns : Told D → Pass → Call → Acted → Told D → Pass → Type 0
  Owns between pass call acted behind after = Acts modelled life between pass call acted behind after ⊎ IsCollected between pass call acted behind after

  abbrev Lasts : Pass → Call → Acted → Told D → Told D → Type 0
  Lasts pass call acted between behind = (its : List AnsweredCall) × GoesOn between its behind × IsOwn pass call acted its

  own_goes : (between behind : Told D) (pass after : Pass) (call : Call) (acted : Acted) → Owns between pass call acted behind after → Lasts pass call acted between behind
  own_goes between behind pass after call (Answered a) (inl (inl l)) = (
    record { conversation = pass.conversation; call = call; mark = l.mark; answer = answer_of a } ∷ [],
    record {
      calls = l.calls;
      holders = ap (λ (ps : List (Option Count)). map holder ps) l.places
          ∙ set_held between.places pass.place (count_of after) (held_at between.places pass.place (count_of pass) l.knows ∙ ap (λ (n : ℕ). Some (Some n)) (sym l.conversation));
      opening = l.opening;
      next = l.next;
    },
    inr (l.mark, refl),
  )
  own_goes between behind pass after call (Answered a) (inl (inr f)) = ([], goes_core between behind behind.core f.nothing.book, inl refl)
  own_goes between behind pass after call (Answered a) (inr c) =
      let book = c.2.book in (
        [],
        record {
          calls = ap (λ (t : Told D). t.calls) book ∙ sym (append-nil between.calls);
          holders = ap (λ (t : Told D). map holder t.places) book;
          opening = ap (λ (t : Told D). t.opening) book;
          next = ap (λ (t : Told D). t.next) book;
        },
        inl refl,
      )
  own_goes between behind pass after call StrangerPass (inl s) = ([], goes_core between behind between.core s.0, refl)
  own_goes between behind pass after call StrangerPass (inr c) = absurd c

  -- ---- an answer that says that the device failed

  module _ (belong : AnswersBelong) (excuses : ExcusesBelongToNone) where
    excused_failed : (at new : OnDisk D) (n : ℕ) (k : Call) (a : Answer) → SaysFailed a → IsExcused modelled (shown_on life at) n k a (shown_on life new) → new.is_failed ≡ true
    excused_failed at new n k a says (inl x) = not_memory a says x.answer_is
    excused_failed at new n k a says (inr (inl x)) = not_full a _ _ says x.answer_is
    excused_failed at new n k a says (inr (inr (inl x))) = x.failed
    excused_failed at new n k a says (inr (inr (inr (inl x)))) = x.failed
    excused_failed at new n k a says (inr (inr (inr (inr x)))) = x.same.is_failed ∙ x.failed

    steps_failed : (at new : OnDisk D) (n : ℕ) (k : Call) (a : Answer) → SaysFailed a → Steps modelled (shown_on life at) n k a (shown_on life new) → new.is_failed ≡ true
    steps_failed at new n k a says (inl t) = absurd (excuses k a (an_excuse a says) (subst (λ (x : Answer). Belongs k x) (sym t.answer_is) (belong at.state n k)))
    steps_failed at new n k a says (inr (inl t)) = absurd (excuses k a (an_excuse a says) (subst (λ (x : Answer). Belongs k x) (sym t.misread.answer_is) (belong (over t.misread.given at.state) n k)))
    steps_failed at new n k a says (inr (inr x)) = excused_failed at new n k a says x

    own_failed : (between behind : Told D) (pass after : Pass) (call : Call) (a : _) → IsKept modelled life between → Owns between pass call (Answered a) behind after → SaysFailed (answer_of a) → behind.core.is_failed ≡ true
    own_failed between behind pass after call a kept (inl (inl l)) says = steps_failed l.answered.at behind.core pass.conversation call (answer_of a) says l.answered.steps
    own_failed between behind pass after call a kept (inl (inr f)) says = not_memory (answer_of a) says f.answer_is
    own_failed between behind pass after call a kept (inr c) says =
        let its = c.2 in
        ap (λ (t : Told D). t.core.is_failed) its.book ∙ kept.failures pass.place _ its.waiting.left (left_failed c.0 its.has_failed (answer_of a) says its.answer_is)

    cause_of : (found between behind : Told D) (pass after : Pass) (call : Call) (acted : Acted) → IsKept modelled life between → Owns between pass call acted behind after
        → (Knows found pass → (Knows between pass → ⊥) → ⊥) → HasCause found pass acted behind
    cause_of found between behind pass after call (Answered a) kept owns known = λ says. own_failed between behind pass after call a kept owns says
    cause_of found between behind pass after call StrangerPass kept (inl s) known = λ knows. known knows s.2
    cause_of found between behind pass after call StrangerPass kept (inr c) known = absurd c

    -- ---- the turn

    turns : (found between behind : Told D) (pass after : Pass) (call : Call) (acted : Acted) → MayFulfil life found between → Owns between pass call acted behind after → HasCause found pass acted behind
        → TakesTurn modelled life pass call acted after found behind
    turns found between behind pass after call acted waited owns cause =
        let before = waited_goes life found between waited in
        let (its, goes, is_own) = own_goes between behind pass after call acted owns in
        record {
          between = between;
          behind = behind;
          waited = waited;
          own = owns;
          rests = record { name = refl; state = refl; made = refl; failed = λ e. e };
          rest = refl;
          together = before.0;
          its = its;
          goes_on = goes_both found between behind before.0 its before.1 goes;
          is_own = is_own;
          cause = cause;
        }

    -- the call was asked at once, or found to have been made
    pub at_once : (found behind : Told D) (pass after : Pass) (call : Call) (acted : Acted) → IsKept modelled life found → Owns found pass call acted behind after → TakesTurn modelled life pass call acted after found behind
    at_once found behind pass after call acted kept owns = turns found found behind pass after call acted (inl refl) owns (cause_of found found behind pass after call acted kept owns (λ knows never. never knows))

    -- a pass that stands and finds nothing left is known
    still_known : (between behind : Told D) (pass after : Pass) (wished : Asked) → Stands between pass wished → CollectsNothing between pass wished behind after → (Knows between pass → ⊥) → ⊥
    still_known between behind pass after wished s c never = ⊎_elim never (λ w. c.none w.0 w.1) s.known

    stands_first : (found : Told D) (pass : Pass) (wished : Asked) → IsKept modelled life found → Knows found pass → Stands found pass wished
    stands_first found pass wished kept knows = record { as_many = kept.as_many ∙ sym kept.sixty_four; known = inl knows }

    -- the call was asked behind those of others
    pub asked_behind : (found between same behind : Told D) (pass too after : Pass) (wished : Asked) (call : Call) (acted : Acted) → IsKept modelled life found → IsKept modelled life between → MayFulfil life found between
        → (Stands found pass wished → Stands between pass wished) → CollectsNothing between pass wished same too → Acts modelled life same too call acted behind after → TakesTurn modelled life pass call acted after found behind
    asked_behind found between same behind pass too after wished call acted was kept waited stands none acts =
        let on_book = subst (λ (t : Told D). Acts modelled life t too call acted behind after) none.book acts in
        let owns : Owns between pass call acted behind after = inl (subst (λ (p : Pass). Acts modelled life between p call acted behind after) none.same on_book) in
        turns found between behind pass after call acted waited owns
        (cause_of found between behind pass after call acted kept owns (λ knows never. still_known between same pass too wished (stands (stands_first found pass wished was knows)) none never))

    -- or found to have been made with them
    pub collected_behind : (found between behind : Told D) (pass after : Pass) (wished : Asked) (call : Call) (a : _) → IsKept modelled life between → MayFulfil life found between → call ≡ call_for wished
        → Collects between pass wished (answer_of a) behind after → TakesTurn modelled life pass call (Answered a) after found behind
    collected_behind found between behind pass after wished call a kept waited is c =
        let owns : Owns between pass call (Answered a) behind after = inr (wished, is, c) in
        turns found between behind pass after call (Answered a) waited owns (λ says. own_failed between behind pass after call a kept owns says)

    -- ---- the same, where nothing was left at first

    pub asked_at_last : (found first between same behind : Told D) (pass early too after : Pass) (wished : Asked) (call : Call) (acted : Acted) → IsKept modelled life found → IsKept modelled life between
        → CollectsNothing found pass wished first early → MayFulfil life first between → (Stands first early wished → Stands between early wished) → CollectsNothing between early wished same too
        → Acts modelled life same too call acted behind after → TakesTurn modelled life pass call acted after found behind
    asked_at_last found first between same behind pass early too after wished call acted was kept before waited stands none acts =
        asked_behind found between same behind pass too after wished call acted was kept (subst (λ (t : Told D). MayFulfil life t between) before.book waited)
        (subst (λ (t : Told D). Stands t pass wished → Stands between pass wished) before.book (subst (λ (p : Pass). Stands first p wished → Stands between p wished) before.same stands))
        (subst (λ (p : Pass). CollectsNothing between p wished same too) before.same none) acts

    pub collected_at_last : (found first between behind : Told D) (pass early after : Pass) (wished : Asked) (call : Call) (a : _) → IsKept modelled life between → CollectsNothing found pass wished first early
        → MayFulfil life first between → call ≡ call_for wished → Collects between early wished (answer_of a) behind after → TakesTurn modelled life pass call (Answered a) after found behind
    collected_at_last found first between behind pass early after wished call a kept before waited is c =
        collected_behind found between behind pass after wished call a kept (subst (λ (t : Told D). MayFulfil life t between) before.book waited) is
        (subst (λ (p : Pass). Collects between p wished (answer_of a) behind after) before.same c)

    -- the same, where the book between is seen by another name
    pub asked_as_seen : (found first between seen same behind : Told D) (pass early too after : Pass) (wished : Asked) (call : Call) (acted : Acted) → between ≡ seen → IsKept modelled life found → IsKept modelled life between
        → CollectsNothing found pass wished first early → MayFulfil life first seen → (Stands first early wished → Stands seen early wished) → CollectsNothing between early wished same too
        → Acts modelled life same too call acted behind after → TakesTurn modelled life pass call acted after found behind
    asked_as_seen found first between seen same behind pass early too after wished call acted view was kept before waited stands none acts =
        asked_at_last found first between same behind pass early too after wished call acted was kept before (subst (λ (t : Told D). MayFulfil life first t) (sym view) waited)
        (subst (λ (t : Told D). Stands first early wished → Stands t early wished) (sym view) stands) none acts

  -- ---- a checkpoint behind it

  cause_on : (found mid left : Told D) (pass : Pass) (acted : Acted) → (mid.core.is_failed ≡ true → left.core.is_failed ≡ true) → HasCause found pass acted mid → HasCause found pass acted left
  cause_on found mid left pass (Answered a) on cause = λ says. on (cause says)
  cause_on found mid left pass StrangerPass on cause = cause

  pub rests_behind : (found mid left : Told D) (pass after : Pass) (call : Call) (acted : Acted) → TakesTurn modelled life pass call acted after found mid → Rests mid.core left.core → left ≡ record mid { core = left.core }
      → TakesTurn modelled life pass call acted after found left
  rests_behind found mid left pass after call acted t rests is = record {
    between = t.between;
    behind = t.behind;
    waited = t.waited;
    own = t.own;
    rests = rests_then modelled life t.behind.core mid.core left.core t.rests rests;
    rest = is ∙ ap (λ (b : Told D). record b { core = left.core }) t.rest;
    together = t.together;
    its = t.its;
    goes_on = record {
      calls = ap (λ (b : Told D). b.calls) is ∙ t.goes_on.calls;
      holders = ap (λ (b : Told D). map holder b.places) is ∙ t.goes_on.holders;
      opening = ap (λ (b : Told D). b.opening) is ∙ t.goes_on.opening;
      next = ap (λ (b : Told D). b.next) is ∙ t.goes_on.next;
    };
    is_own = t.is_own;
    cause = cause_on found mid left pass acted rests.failed t.cause;
  }
