-- Calls of the core over its disk, as those who ask it see them.
use Rattle.std.proofs.Common.{◌≡◌, ℕ, Bool, true, false, List, [], ◌∷◌, ◌++◌, refl, sym, ap, subst, ◌∙◌, inl, inr}
use Rattle.std.proofs.lemmas.Bool.{false≢true}
use Rattle.std.specs.Prelude.{if◌then◌else◌}
use Rattle.drda_disk.specs.Disk.{Life}
use Rattle.core_calls.specs.Call.{Call}
use Rattle.core_calls.specs.Call as call
use Rattle.core_calls.specs.Answer.{Answer}
use Rattle.core_model.specs.Misread.{over}
use Rattle.core_model.specs.Step.{CoreState, Kept, Mark, Taken, answer as answer_to}
use Rattle.serializability.specs.Answered.{AnsweredCall}
use Rattle.serializability.specs.Belonging.{AnswersBelong, Belongs, ExcusesBelongToNone, is_excuse}
use Rattle.half_store.specs.declared.header.Layout.{Layout}
use Rattle.half_store.specs.declared.header.Layout.TheVariants.{Two}
use Rattle.recovery.specs.Journaled.{IsRead, IsUnchanged, OnDisk, shown_on}
use Rattle.durable_core.specs.Steps.{IsClosed, IsTaken, Loses, Steps}
use Rattle.durable_core.proofs.Recording.{nothing_done}
use Rattle.durable_core.specs.Checkpointing.{Becomes, Checkpoints, IsSameCore}
use Rattle.durable_core.specs.declared.checkpointing.Checkpointed.{Checkpointed}
use Rattle.durable_core.specs.declared.checkpointing.Checkpointed.TheVariants.{Closed, DeviceFailed, Done, Full, NoMemory}
use Rattle.drda_node.specs.Asking.{AskedCore, asked_after, asks, left_by, left_of, noted}
use Rattle.drda_node.specs.Happening.{IsCheckpointed}

-- ---- how a call is noted

-- whether its step was taken is told by its answer
module _ (calls more : List AnsweredCall) (place : ℕ) (call : Call) (answer : Answer) where
  abbrev listed : Mark → List AnsweredCall
  listed mark = calls ++ record { conversation = place; call = call; mark = mark; answer = answer } ∷ []

  pub record IsNoted (is_taken : Bool) : Type 0 where
    pub done : is_taken ≡ true → is_excuse answer ≡ false
    pub excused : is_taken ≡ false → is_excuse answer ≡ true
    pub list : more ≡ listed (if is_taken then Taken else Kept)

  as_taken : (is_taken : Bool) → IsNoted is_taken → (is_excuse answer ≡ true → ⊥) → more ≡ listed Taken
  as_taken true n never = n.list
  as_taken false n never = absurd (never (n.excused refl))

  as_kept : (is_taken : Bool) → IsNoted is_taken → is_excuse answer ≡ true → more ≡ listed Kept
  as_kept true n is = let both : false ≡ true = sym (n.done refl) ∙ is in absurd (false≢true both)
  as_kept false n is = n.list

module _ {D : Type 0} (modelled : Bool) (life : D → Life) where
  -- ---- a call is asked

  module _ (belong : AnswersBelong) (excuses : ExcusesBelongToNone) (old new : OnDisk D) (place : ℕ) (call : Call) (answer : Answer) (calls more : List AnsweredCall) (is_taken : Bool) (n : IsNoted calls more place call answer is_taken) where
    abbrev before : AskedCore
    before = asked_after modelled calls old

    abbrev behind : AskedCore
    behind = asked_after modelled more new

    no_excuse : (s : CoreState) → answer ≡ answer_to s.branches s.base place call → is_excuse answer ≡ true → ⊥
    no_excuse s same is = excuses call answer is (subst (λ (a : Answer). Belongs call a) (sym same) (belong s place call))

    taken : (s : CoreState) → answer ≡ answer_to s.branches s.base place call → more ≡ noted Taken before place call answer
    taken s same = as_taken calls more place call answer is_taken n (no_excuse s same)

    kept : is_excuse answer ≡ true → more ≡ noted Kept before place call answer
    kept is = as_kept calls more place call answer is_taken n is

    read_core : IsRead (shown_on life old) (shown_on life new) → is_excuse answer ≡ true → behind ≡ record before { calls = noted Kept before place call answer }
    read_core e is = λ i. record { is_told = modelled; state = e.state i; layout = e.layout i; room = e.room i; has_failed = e.is_failed i; made = e.made i; calls = kept is i }

    same_core : IsUnchanged (shown_on life old) (shown_on life new) → is_excuse answer ≡ true → behind ≡ record before { calls = noted Kept before place call answer }
    same_core e is = λ i. record { is_told = modelled; state = e.state i; layout = e.layout i; room = e.room i; has_failed = e.is_failed i; made = e.made i; calls = kept is i }

    pub core_asks : Steps modelled (shown_on life old) place call answer (shown_on life new) → asks place before call answer behind
    core_asks (inl t) = inl (record { told = refl; going = t.going; answer_is = t.answer_is; state = t.state; layout = t.layout; room = t.room; still = t.still; made = t.made; calls = taken old.state t.answer_is })
    core_asks (inr (inl t)) = inr (inl (record {
      untold = t.untold;
      going = t.going;
      misread = t.misread;
      rest = λ i. record {
        is_told = modelled;
        state = new.state;
        layout = t.layout i;
        room = t.room i;
        has_failed = (t.still ∙ sym t.going) i;
        made = t.made i;
        calls = taken (over t.misread.given old.state) t.misread.answer_is i;
      };
    }))
    core_asks (inr (inr (inl t))) = inr (inr (inl (record { going = t.going; wanting = t.wanting; answer_is = t.answer_is; same = read_core t.same (ap is_excuse t.answer_is) })))
    core_asks (inr (inr (inr (inl t)))) = inr (inr (inr (inl (record {
      going = t.going;
      record_is = t.record_is;
      due = t.due;
      answer_is = t.answer_is;
      less = t.less;
      same = same_core t.same (ap is_excuse t.answer_is);
    }))))
    core_asks (inr (inr (inr (inr (inl t))))) = inr (inr (inr (inr (inl (record {
      told = refl;
      going = t.going;
      record_is = t.record_is;
      due = t.due;
      answer_is = t.answer_is;
      state = t.state;
      layout = t.layout;
      room = t.room;
      failed = t.failed;
      begun = t.begun;
      calls = kept (ap is_excuse t.answer_is);
    })))))
    core_asks (inr (inr (inr (inr (inr (inl t)))))) = inr (inr (inr (inr (inr (inl (record {
      going = t.going;
      reading = t.reading;
      answer_is = t.answer_is;
      same = λ i. record { is_told = modelled; state = t.state i; layout = t.layout i; room = t.room i; has_failed = t.failed i; made = t.made i; calls = kept (ap is_excuse t.answer_is) i };
    }))))))
    core_asks (inr (inr (inr (inr (inr (inr t)))))) = inr (inr (inr (inr (inr (inr (record { failed = t.failed; answer_is = t.answer_is; same = same_core t.same (ap is_excuse t.answer_is) }))))))

  -- ---- what a loss leaves

  module _ (belong : AnswersBelong) (excuses : ExcusesBelongToNone) (old new : OnDisk D) (place : ℕ) (answer : Answer) (calls more : List AnsweredCall) (is_taken : Bool) (n : IsNoted calls more place call.lost answer is_taken) where
    abbrev at_first : AskedCore
    at_first = asked_after modelled calls old

    left_going : IsTaken (shown_on life old) place call.lost answer (shown_on life new) → asked_after modelled more new ≡ left_of false at_first place
    left_going t = λ i. record {
      is_told = modelled;
      state = t.state i;
      layout = t.layout i;
      room = t.room i;
      has_failed = (t.still ∙ sym t.going) i;
      made = (t.made ∙ sym (nothing_done old.made)) i;
      calls = (taken belong excuses old new place call.lost answer calls more is_taken n old.state t.answer_is ∙ ap (λ (a : Answer). noted Taken at_first place call.lost a) t.answer_is) i;
    }

    left_closed : IsClosed (shown_on life old) answer (shown_on life new) → asked_after modelled more new ≡ left_of true at_first place
    left_closed t =
        same_core belong excuses old new place call.lost answer calls more is_taken n t.same (ap is_excuse t.answer_is)
        ∙ ap (λ (a : Answer). record at_first { calls = noted Kept at_first place call.lost a }) t.answer_is

    pub core_loses : Loses (shown_on life old) place answer (shown_on life new) → asked_after modelled more new ≡ left_by at_first place
    core_loses (inl t) = left_going t ∙ ap (λ (b : Bool). left_of b at_first place) (sym t.going)
    core_loses (inr t) = left_closed t ∙ ap (λ (b : Bool). left_of b at_first place) (sym t.failed)

  -- ---- what a checkpoint leaves

  module _ (calls : List AnsweredCall) where
    abbrev asked : OnDisk D → AskedCore
    asked s = asked_after modelled calls s

    unchanged : (old new : OnDisk D) → IsUnchanged (shown_on life old) (shown_on life new) → asked new ≡ asked old
    unchanged old new e = λ i. record { is_told = modelled; state = e.state i; layout = e.layout i; room = e.room i; has_failed = e.is_failed i; made = e.made i; calls = calls }

    -- the state, the records and the calls stay
    with_rest : (old new : OnDisk D) (layout : Layout) (room : ℕ) (failed : Bool) → IsSameCore (shown_on life old) (shown_on life new) → new.layout ≡ layout → new.room ≡ room → new.is_failed ≡ failed
        → asked new ≡ record (asked old) { layout = layout; room = room; has_failed = failed }
    with_rest old new layout room failed same layout_is room_is failed_is = λ i. record { is_told = modelled; state = same.state i; layout = layout_is i; room = room_is i; has_failed = failed_is i; made = same.made i; calls = calls }

    becomes : (told : Checkpointed) (old new : OnDisk D) → IsSameCore (shown_on life old) (shown_on life new) → Becomes modelled told (shown_on life old) (shown_on life new) → IsCheckpointed told (asked old) (asked new)
    becomes Done old new same b = (b.going, (new.room, with_rest old new Two new.room old.is_failed same b.layout refl (b.still ∙ sym b.going)))
    becomes (Full need room) old new same b = (b.0.going, with_rest old new old.layout old.room old.is_failed same b.0.layout b.0.room (b.0.still ∙ sym b.0.going))
    becomes NoMemory old new same b = (b.going, with_rest old new old.layout old.room old.is_failed same b.layout b.room (b.still ∙ sym b.going))
    becomes DeviceFailed old new same b = (b.going, with_rest old new old.layout old.room true same b.layout b.room b.failed)
    becomes Closed old new same b = (b.failed, unchanged old new b.same)

  pub core_checkpoints : (told : Checkpointed) (old new : OnDisk D) → Checkpoints modelled told (shown_on life old) (shown_on life new) → (calls : List AnsweredCall) → IsCheckpointed told (asked_after modelled calls old) (asked_after modelled calls new)
  core_checkpoints told old new c calls = becomes calls told old new c.same c.becomes
