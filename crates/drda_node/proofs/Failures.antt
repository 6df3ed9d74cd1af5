-- A command closes its conversation only where the device has failed: what a step answers can be used, and so can the
-- excuses that there was no memory or no room.
use Rattle.std.proofs.Common.{◌≡◌, ◌⊎◌, inl, inr, ⊎_elim, ℕ, Bool, true, false, List, [], ◌∷◌, ◌++◌, Option, Some, None, refl, sym, ◌∙◌, ap, subst}
use Rattle.xa_calls.specs.declared.request.Request.{Request}
use Rattle.xa_calls.specs.declared.request.Request.TheVariants as request
use Rattle.core_calls.specs.Call as call
use Rattle.core_calls.specs.Call.{Call}
use Rattle.core_calls.specs.Answer as told
use Rattle.core_calls.specs.Answer.{Answer}
use Rattle.core_calls.specs.declared.call.Side.{Side}
use Rattle.core_calls.specs.declared.call.Side.TheVariants as side
use Rattle.serializability.specs.Belonging.{AnswersBelong, Belongs, IsSide, IsXaAnswer}
use Rattle.dss_frames.specs.Dss.{Dss}
use Rattle.dss_frames.specs.Reading.{End, ReadsAs, faulty, unfinished}
use Rattle.session_commands.specs.Settings.{Settings}
use Rattle.conversation.specs.Standing.{Standing}
use Rattle.conversation.specs.Done.{DoesAll}
use Rattle.conversation.specs.Steps.{Ends}
use Rattle.conversation.specs.Usable.{is_description, is_end, is_usable, is_xa_answer}
use Rattle.conversation.proofs.Failing.{only_unusable_answers}
use Rattle.core_model.specs.Misread.{over}
use Rattle.drda_node.specs.Asking.{AskedCore, IsExcused, asks}
use Rattle.drda_node.specs.Closing.{IsFaulty, OnlyFailedDevicesClose, OnlyFaultsClose}
use Rattle.drda_node.specs.Hearing.{Attended, Hears}

both : {X : Type 0} (b : Bool) → b ≡ true → b ≡ false → X
both true so ne = absurd (let e : true ≡ false = ne in cc)
both false so ne = absurd (let e : false ≡ true = so in cc)

which : (b : Bool) → (b ≡ true) ⊎ (b ≡ false)
which true = inl refl
which false = inr refl

-- ---- what belongs to a call can be used

side_usable : (d : Side) (a : Answer) → IsSide d a → is_description a ≡ true
side_usable side.Output a is = ap is_description is.1
side_usable side.Input a is = ap is_description is.1

xa_usable : (r : Option Request) (a : Answer) → IsXaAnswer r a → is_xa_answer r a ≡ true
xa_usable (Some request.Recover) a is = ap (is_xa_answer (Some request.Recover)) is.1
xa_usable (Some (request.Branch verb xid)) a is = ap (is_xa_answer (Some (request.Branch verb xid))) is.1
xa_usable None a is = ap (is_xa_answer None) is.1

end_usable : (a : Answer) → (a ≡ told.done) ⊎ (a ≡ told.in_global) → is_end a ≡ true
end_usable a is = ⊎_elim (λ e. ap is_end e) (λ e. ap is_end e) is

usable : (k : Call) (a : Answer) → Belongs k a → is_usable k a ≡ true
usable (call.run s params) a is = ⊎_elim (λ e. ap (is_usable (call.run s params)) e.1) (λ e. ap (is_usable (call.run s params)) e.1) is
usable (call.query s params) a is = ⊎_elim (λ e. ap (is_usable (call.query s params)) e.1) (λ e. ap (is_usable (call.query s params)) e.1) is
usable (call.describe s d) a is = ⊎_elim (side_usable d a) (λ e. ap is_description e.1) is
usable call.commit a is = end_usable a is
usable call.roll_back a is = end_usable a is
usable (call.xa r) a is = xa_usable r a is
usable call.lost a is = ap is_end is

-- ---- and so can these excuses, whatever was asked

xa_without_memory : (r : Option Request) → is_xa_answer r told.no_memory ≡ true
xa_without_memory (Some request.Recover) = refl
xa_without_memory (Some (request.Branch verb xid)) = refl
xa_without_memory None = refl

without_memory : (k : Call) → is_usable k told.no_memory ≡ true
without_memory (call.run s params) = refl
without_memory (call.query s params) = refl
without_memory (call.describe s d) = refl
without_memory call.commit = refl
without_memory call.roll_back = refl
without_memory (call.xa r) = xa_without_memory r
without_memory call.lost = refl

xa_without_room : (r : Option Request) (need room : ℕ) → is_xa_answer r (told.full need room) ≡ true
xa_without_room (Some request.Recover) need room = refl
xa_without_room (Some (request.Branch verb xid)) need room = refl
xa_without_room None need room = refl

without_room : (k : Call) (need room : ℕ) → is_usable k (told.full need room) ≡ true
without_room (call.run s params) need room = refl
without_room (call.query s params) need room = refl
without_room (call.describe s d) need room = refl
without_room call.commit need room = refl
without_room call.roll_back need room = refl
without_room (call.xa r) need room = xa_without_room r need room
without_room call.lost need room = refl

-- ---- a call whose answer can't be used

module _ (place : ℕ) (old new : AskedCore) (k : Call) (a : Answer) (unusable : is_usable k a ≡ false) where
  by_excuse : IsExcused old place k a new → new.has_failed ≡ true
  by_excuse (inl x) = both (is_usable k a) (ap (is_usable k) x.answer_is ∙ without_memory k) unusable
  by_excuse (inr (inl x)) = both (is_usable k a) (ap (is_usable k) x.answer_is ∙ without_room k _ _) unusable
  by_excuse (inr (inr (inl x))) = x.failed
  by_excuse (inr (inr (inr (inl x)))) = ap (λ (core : AskedCore). core.has_failed) x.same
  by_excuse (inr (inr (inr (inr x)))) = ap (λ (core : AskedCore). core.has_failed) x.same ∙ x.failed

  by_asks : AnswersBelong → asks place old k a new → new.has_failed ≡ true
  by_asks belong (inl x) = both (is_usable k a) (usable k a (subst (Belongs k) (sym x.answer_is) (belong old.state place k))) unusable
  by_asks belong (inr (inl x)) = both (is_usable k a) (usable k a (subst (Belongs k) (sym x.misread.answer_is) (belong (over x.misread.given old.state) place k))) unusable
  by_asks belong (inr (inr x)) = by_excuse x

pub only_failed_devices_close : AnswersBelong → OnlyFailedDevicesClose
only_failed_devices_close belong settings place s next command bytes does closed =
    let v = only_unusable_answers (asks place) settings s next command bytes does closed in
    by_asks place s.asked next.asked v.call v.answer v.unusable belong v.asked

-- ---- all that is heard

module _ (belong : AnswersBelong) (settings : Settings) (place : ℕ) where
  -- after the command that closes there is none
  closed_there : (commands : List (List Dss)) (s last : Standing AskedCore) (bytes : List ℕ) → s.session.is_closed ≡ true → DoesAll (asks place) settings s commands bytes last → last ≡ s
  closed_there [] s last bytes closed d = d.1
  closed_there (command ∷ commands) s last bytes closed d = both s.session.is_closed closed d.3.still_open

  closed_all : (commands : List (List Dss)) (s last : Standing AskedCore) (bytes : List ℕ) → s.session.is_closed ≡ false → last.session.is_closed ≡ true
      → DoesAll (asks place) settings s commands bytes last → last.asked.has_failed ≡ true
  closed_all [] s last bytes still_open closed d = both last.session.is_closed closed (ap (λ (t : Standing AskedCore). t.session.is_closed) d.1 ∙ still_open)
  closed_all (command ∷ commands) s last bytes still_open closed d =
      let then = d.2 in
      ⊎_elim
      (λ so. ap (λ (t : Standing AskedCore). t.asked.has_failed) (closed_there commands then last d.1 so d.5) ∙ only_failed_devices_close belong settings place s then command d.0 d.3 so)
      (λ n. closed_all commands then last d.1 n closed d.5)
      (which then.session.is_closed)

  by_end : (text bytes left : List ℕ) (commands : List (List Dss)) (end : End) (between last : Standing AskedCore) → ReadsAs text commands end → between.session.is_closed ≡ false → last.session.is_closed ≡ true
      → Ends (asks place) between end bytes left last → IsFaulty text
  by_end text bytes left commands (unfinished rest) between last reads still_open closed e = both last.session.is_closed closed (ap (λ (t : Standing AskedCore). t.session.is_closed) e.2 ∙ still_open)
  by_end text bytes left commands (faulty fault) between last reads still_open closed e = record { commands = commands; fault = fault; reads = reads }

  by_hearing : (before after : Attended) (bytes replies : List ℕ) → before.standing.session.is_closed ≡ false → after.standing.session.is_closed ≡ true
      → Hears settings place before bytes replies after → IsFaulty (before.rest ++ bytes) ⊎ (after.standing.asked.has_failed ≡ true)
  by_hearing before after bytes replies still_open closed (inr h) = both before.standing.session.is_closed h.closed still_open
  by_hearing before after bytes replies still_open closed (inl l) =
      ⊎_elim
      (λ c. inl (by_end (before.rest ++ bytes) c.closing after.rest c.commands c.end c.between after.standing c.reads c.still_open closed c.ends))
      (λ c. inr (closed_all c.commands before.standing after.standing replies still_open closed c.does))
      l.converses

pub only_faults_close : AnswersBelong → OnlyFaultsClose
only_faults_close belong settings place before after bytes replies hears still_open closed = by_hearing belong settings place before after bytes replies still_open closed hears
