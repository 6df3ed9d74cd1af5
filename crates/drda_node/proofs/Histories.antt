-- What a machine does to its core is a history of calls.
use Rattle.std.proofs.Common.{◌≡◌, ◌⊎◌, ℕ, Bool, true, false, List, [], ◌∷◌, ◌++◌, Option, Some, None, slice_get, refl, sym, ap, subst, ◌∙◌, inl, inr, append-nil, append_assoc}
use Rattle.std.proofs.lemmas.Bool.{false≢true}
use Rattle.dss_frames.specs.Dss.{Dss}
use Rattle.dss_frames.specs.Reading.{End, faulty, unfinished}
use Rattle.sqlam_replies.specs.Reply.{Reply}
use Rattle.command_kit.specs.declared.statements.Statements.{Statements}
use Rattle.command_kit.specs.Doing.{Doing, asking, finished}
use Rattle.command_kit.specs.Done.{WasDone}
use Rattle.session_commands.specs.Settings.{Settings}
use Rattle.conversation.specs.Standing.{Standing}
use Rattle.conversation.specs.Done.{DoesAll, Exchanges, IsExcused as IsShort}
use Rattle.conversation.specs.Steps.{Converses, Ends}
use Rattle.core_calls.specs.Call.{Call}
use Rattle.core_calls.specs.Call as call
use Rattle.core_calls.specs.Answer.{Answer, closed}
use Rattle.core_model.specs.Step.{CoreState, Kept, Mark, Taken, answer, replay, step_by}
use Rattle.durable_core.specs.declared.checkpointing.Checkpointed.{Checkpointed}
use Rattle.durable_core.specs.declared.checkpointing.Checkpointed.TheVariants.{Closed, DeviceFailed, Done, Full, NoMemory}
use Rattle.durable_core.proofs.Recording.{nothing_done}
use Rattle.serializability.specs.Answered.{AnsweredCall, history_of}
use Rattle.drda_node.specs.Asking.{AskedCore, IsExcused, asks, left_of, noted as noted_by}
use Rattle.drda_node.specs.Machine as machine
use Rattle.drda_node.specs.Machine.{Conversation, Machine}
use Rattle.drda_node.specs.Hearing.{Attended, Hears, HearsAt}
use Rattle.drda_node.specs.Records.{Event, checkpoints, loses, opens, sends}
use Rattle.drda_node.specs.Happening.{BreaksOff, CheckpointsAs, HappenAll, Happens, IsCheckpointed, LosesAt, OpensAt, SendsAt, SendsPart}
use Rattle.drda_node.specs.Calls.{AreOf, CallsAreHistories, HasHistory, IsAsked, IsHistory, Rests}

-- ---- of one conversation

rests_same : (old new : AskedCore) → new ≡ old → Rests old new
rests_same old new same = record { told = ap (λ (c : AskedCore). c.is_told) same; state = ap (λ (c : AskedCore). c.state) same; made = ap (λ (c : AskedCore). c.made) same; calls = ap (λ (c : AskedCore). c.calls) same; failed = λ failed. same }

rests_both : (a b c : AskedCore) → Rests a b → Rests b c → Rests a c
rests_both a b c p q = record {
  told = q.told ∙ p.told;
  state = q.state ∙ p.state;
  made = q.made ∙ p.made;
  calls = q.calls ∙ p.calls;
  failed = λ failed. q.failed (ap (λ (o : AskedCore). o.has_failed) (p.failed failed) ∙ failed) ∙ p.failed failed;
}

abbrev Calls : ℕ → AskedCore → AskedCore → Type 0
Calls place old new = (calls : List AnsweredCall) × AreOf place calls × IsHistory old calls new

none : (place : ℕ) (old new : AskedCore) → new ≡ old → Calls place old new
none place old new same = ([], tt, rests_same old new same)

one : (place : ℕ) (old : AskedCore) (call : Call) (said : Answer) (new : AskedCore) → asks place old call said new → Calls place old new
one place old call said new (inl t) = (record { conversation = place; call = call; answer = said; mark = Taken } ∷ [], (refl, tt), (old, new, rests_same old old refl, inl t, rests_same new new refl))
one place old call said new (inr (inl t)) = (record { conversation = place; call = call; answer = said; mark = Taken } ∷ [], (refl, tt), (old, new, rests_same old old refl, inr t, rests_same new new refl))
one place old call said new (inr (inr t)) = (record { conversation = place; call = call; answer = said; mark = Kept } ∷ [], (refl, tt), (old, new, rests_same old old refl, t, rests_same new new refl))

are_both : (place : ℕ) (xs ys : List AnsweredCall) → AreOf place xs → AreOf place ys → AreOf place (xs ++ ys)
are_both place [] ys p q = q
are_both place (x ∷ xs) ys (is, p) q = (is, are_both place xs ys p q)

history_both : (a b c : AskedCore) (xs ys : List AnsweredCall) → IsHistory a xs b → IsHistory b ys c → IsHistory a (xs ++ ys) c
history_both a b c [] [] p q = rests_both a b c p q
history_both a b c [] (y ∷ ys) p (at, between, rests, first, q) = (at, between, rests_both a b at p rests, first, q)
history_both a b c (x ∷ xs) ys (at, between, rests, first, p) q = (at, between, rests, first, history_both between b c xs ys p q)

calls_both : (place : ℕ) (a b c : AskedCore) → Calls place a b → Calls place b c → Calls place a c
calls_both place a b c (xs, p, f) (ys, q, g) = (xs ++ ys, are_both place xs ys p q, history_both a b c xs ys f g)

module _ (settings : Settings) (place : ℕ) where
  done : (doing : Doing) (old new : AskedCore) (k : Statements) (before after : List Reply) → WasDone (asks place) doing old new k before after → Calls place old new
  done (finished r) old new k before after w = none place old new w.0
  done (asking call answered) old new k before after w = one place old call w.answer new w.asked

  exchanges : (s s' : Standing AskedCore) (command : List Dss) (bytes : List ℕ) → Exchanges (asks place) settings s command bytes s' → Calls place s.asked s'.asked
  exchanges s s' [] bytes e = none place s.asked s'.asked (ap (λ (t : Standing AskedCore). t.asked) e.1)
  exchanges s s' (request ∷ objects) bytes (inl p) = none place s.asked s'.asked (ap (λ (t : Standing AskedCore). t.asked) p.same)
  exchanges s s' (request ∷ objects) bytes (inr e) = done _ s.asked s'.asked s'.statements [] e.followed.replies e.followed.done

  does : (s s' : Standing AskedCore) (command : List Dss) (bytes : List ℕ) → Exchanges (asks place) settings s command bytes s' ⊎ IsShort s command bytes s' → Calls place s.asked s'.asked
  does s s' command bytes (inl e) = exchanges s s' command bytes e
  does s s' command bytes (inr e) = none place s.asked s'.asked (ap (λ (t : Standing AskedCore). t.asked) e.same)

  does_all : (commands : List (List Dss)) (s last : Standing AskedCore) (bytes : List ℕ) → DoesAll (asks place) settings s commands bytes last → Calls place s.asked last.asked
  does_all [] s last bytes d = none place s.asked last.asked (ap (λ (t : Standing AskedCore). t.asked) d.1)
  does_all (command ∷ commands) s last bytes (first, others, between, d, same, more) = calls_both place s.asked between.asked last.asked (does s between command first d.does) (does_all commands between last others more)

  ends : (end : End) (s last : Standing AskedCore) (bytes left : List ℕ) → Ends (asks place) s end bytes left last → last.asked ≡ s.asked
  ends (unfinished rest) s last bytes left e = ap (λ (t : Standing AskedCore). t.asked) e.2
  ends (faulty fault) s last bytes left e = ap (λ (t : Standing AskedCore). t.asked) e.1

  converses : (s last : Standing AskedCore) (text bytes left : List ℕ) → Converses (asks place) settings s text bytes left last → Calls place s.asked last.asked
  converses s last text bytes left (inl c) =
      subst (λ (o : AskedCore). Calls place s.asked o) (sym (ends c.end c.between last c.closing left c.ends)) (does_all c.commands s c.between c.replies c.does)
  converses s last text bytes left (inr c) = does_all c.commands s last bytes c.does

  hears : (before after : Attended) (bytes replies : List ℕ) → Hears settings place before bytes replies after → Calls place before.standing.asked after.standing.asked
  hears before after bytes replies (inl l) = converses before.standing after.standing (before.rest ++ bytes) replies after.rest l.converses
  hears before after bytes replies (inr h) = none place before.standing.asked after.standing.asked (ap (λ (a : Attended). a.standing.asked) h.same)

heard : (old new : Machine) (place : ℕ) (bytes replies : List ℕ) (after : Attended) → HearsAt old place bytes replies after new → Calls place old.core new.core
heard old new place bytes replies after h =
    subst (λ (m : Machine). Calls place old.core m.core) (sym h.row) (hears old.settings place _ after bytes replies h.hears)

-- ---- a loss

lost_in : (failed : Bool) (old : AskedCore) (place : ℕ) → old.has_failed ≡ failed → Calls place old (left_of failed old place)
lost_in true old place is =
    one place old call.lost closed (left_of true old place) (inr (inr (inr (inr (inr (inr (record { failed = is; answer_is = refl; same = refl })))))))
lost_in false old place is =
    one place old call.lost (answer old.state.branches old.state.base place call.lost) (left_of false old place) (inl (record {
      told = refl;
      going = is;
      answer_is = refl;
      state = refl;
      layout = refl;
      room = refl;
      still = is;
      made = nothing_done old.made;
      calls = refl;
    }))

lost : (old : Machine) (place : ℕ) → Calls place old.core (machine.lost old place).core
lost old place = lost_in old.core.has_failed old.core place refl

-- ---- events

of_all : (place : ℕ) (old new : AskedCore) → Calls place old new → HasHistory old new
of_all place old new (calls, are, history) = (calls, history)

pub unasked : (old new : Machine) → new.core ≡ old.core → HasHistory old.core new.core
unasked old new same = ([], rests_same old.core new.core same)

opens_calls : (o : Option (Option Conversation)) (old new : Machine) (number : ℕ) (written : List ℕ) → OpensAt o old number written new → new.core ≡ old.core
opens_calls None old new number written h = ap (λ (m : Machine). m.core) h.1
opens_calls (Some (Some c)) old new number written h = ap (λ (m : Machine). m.core) h.1
opens_calls (Some None) old new number written (inl h) = ap (λ (m : Machine). m.core) h.2
opens_calls (Some None) old new number written (inr h) = ap (λ (m : Machine). m.core) h.2

sends_calls : (o : Option (Option Conversation)) (old new : Machine) (number : ℕ) (bytes written : List ℕ) → SendsAt o old number bytes written new → HasHistory old.core new.core
sends_calls None old new number bytes written h = unasked old new (ap (λ (m : Machine). m.core) h.1)
sends_calls (Some None) old new number bytes written h = unasked old new (ap (λ (m : Machine). m.core) h.1)
sends_calls (Some (Some c)) old new number bytes written h =
    subst (λ (m : Machine). HasHistory old.core m.core) (sym h.row) (of_all number old.core h.after.standing.asked (hears old.settings number _ h.after bytes h.replies h.hears))

loses_calls : (o : Option (Option Conversation)) (old new : Machine) (number : ℕ) (written : List ℕ) → LosesAt o old number written new → HasHistory old.core new.core
loses_calls None old new number written h = unasked old new (ap (λ (m : Machine). m.core) h.1)
loses_calls (Some None) old new number written h = unasked old new (ap (λ (m : Machine). m.core) h.1)
loses_calls (Some (Some c)) old new number written h = subst (λ (m : Machine). HasHistory old.core m.core) (sym h.1) (of_all number old.core (machine.lost old number).core (lost old number))

-- a checkpoint asks nothing
checkpointed : (told : Checkpointed) (old new : AskedCore) → IsCheckpointed told old new → Rests old new
checkpointed Done old new (going, (room, is)) = record { told = ap (λ (c : AskedCore). c.is_told) is; state = ap (λ (c : AskedCore). c.state) is; made = ap (λ (c : AskedCore). c.made) is; calls = ap (λ (c : AskedCore). c.calls) is; failed = λ failed. absurd (false≢true (sym going ∙ failed)) }
checkpointed (Full need room) old new (going, same) = rests_same old new same
checkpointed NoMemory old new (going, same) = rests_same old new same
checkpointed DeviceFailed old new (going, is) = record { told = ap (λ (c : AskedCore). c.is_told) is; state = ap (λ (c : AskedCore). c.state) is; made = ap (λ (c : AskedCore). c.made) is; calls = ap (λ (c : AskedCore). c.calls) is; failed = λ failed. absurd (false≢true (sym going ∙ failed)) }
checkpointed Closed old new (failed, same) = rests_same old new same

checkpoint_calls : (old new : Machine) (number : ℕ) (written : List ℕ) → CheckpointsAs old number written new → HasHistory old.core new.core
checkpoint_calls old new number written h = subst (λ (m : Machine). HasHistory old.core m.core) (sym h.rest) ([], checkpointed h.told old.core h.core h.is_checkpointed)

pub happens : (old new : Machine) (event : Event) (written : List ℕ) → Happens old event written new → HasHistory old.core new.core
happens old new (opens number) written h = unasked old new (opens_calls (slice_get old.row number) old new number written h)
happens old new (sends number bytes) written h = sends_calls (slice_get old.row number) old new number bytes written h
happens old new (loses number) written h = loses_calls (slice_get old.row number) old new number written h
happens old new (checkpoints number) written h = checkpoint_calls old new number written h

pub some_both : (a b c : AskedCore) → HasHistory a b → HasHistory b c → HasHistory a c
some_both a b c (xs, f) (ys, g) = (xs ++ ys, history_both a b c xs ys f g)

happen_all : (events : List Event) (old new : Machine) (written : List ℕ) → HappenAll old events written new → HasHistory old.core new.core
happen_all [] old new written h = unasked old new (ap (λ (m : Machine). m.core) h.1)
happen_all (event ∷ events) old new written h = some_both old.core h.2.core new.core (happens old h.2 event h.0 h.3) (happen_all events h.2 new h.1 h.5)

sends_part : (old new : Machine) (event : Event) → SendsPart old event new → HasHistory old.core new.core
sends_part old new (opens number) h = absurd h
sends_part old new (sends number bytes) h = of_all number old.core new.core (heard old new number h.0 h.2 h.3 h.5)
sends_part old new (loses number) h = absurd h
sends_part old new (checkpoints number) h = absurd h

pub begun : (old new : Machine) (event : Event) → BreaksOff old event new → HasHistory old.core new.core
begun old new event (inl same) = unasked old new (ap (λ (m : Machine). m.core) same)
begun old new event (inr (inl (written, h))) = happens old new event written h
begun old new event (inr (inr h)) = sends_part old new event h

-- ---- the replay

excused_stays : (place : ℕ) (old : AskedCore) (call : Call) (said : Answer) (new : AskedCore) → IsExcused old place call said new → new.state ≡ old.state
excused_stays place old call said new (inl t) = ap (λ (c : AskedCore). c.state) t.same
excused_stays place old call said new (inr (inl t)) = ap (λ (c : AskedCore). c.state) t.same
excused_stays place old call said new (inr (inr (inl t))) = t.state
excused_stays place old call said new (inr (inr (inr (inl t)))) = ap (λ (c : AskedCore). c.state) t.same
excused_stays place old call said new (inr (inr (inr (inr t)))) = ap (λ (c : AskedCore). c.state) t.same

stepped : (mark : Mark) (old : AskedCore) (place : ℕ) (call : Call) (said : Answer) (new : AskedCore) → old.is_told ≡ true → IsAsked mark old place call said new → new.state ≡ step_by mark old.state place call
stepped Taken old place call said new told (inl t) = t.state
stepped Taken old place call said new told (inr t) = absurd (false≢true (sym t.untold ∙ told))
stepped Kept old place call said new told t = excused_stays place old call said new t

-- the device stays what it is
excused_told : (place : ℕ) (old : AskedCore) (call : Call) (said : Answer) (new : AskedCore) → IsExcused old place call said new → new.is_told ≡ old.is_told
excused_told place old call said new (inl t) = ap (λ (c : AskedCore). c.is_told) t.same
excused_told place old call said new (inr (inl t)) = ap (λ (c : AskedCore). c.is_told) t.same
excused_told place old call said new (inr (inr (inl t))) = t.told
excused_told place old call said new (inr (inr (inr (inl t)))) = ap (λ (c : AskedCore). c.is_told) t.same
excused_told place old call said new (inr (inr (inr (inr t)))) = ap (λ (c : AskedCore). c.is_told) t.same

pub asked_told : (mark : Mark) (old new : AskedCore) (place : ℕ) (call : Call) (said : Answer) → IsAsked mark old place call said new → new.is_told ≡ old.is_told
asked_told Taken old new place call said (inl t) = t.told
asked_told Taken old new place call said (inr t) = ap (λ (c : AskedCore). c.is_told) t.rest
asked_told Kept old new place call said t = excused_told place old call said new t

replayed : (calls : List AnsweredCall) (old new : AskedCore) → old.is_told ≡ true → IsHistory old calls new → new.state ≡ replay (history_of calls) old.state
replayed [] old new told h = h.state
replayed (a ∷ calls) old new told (at, between, rests, t, h) =
    let told_there : at.is_told ≡ true = rests.told ∙ told in
    let step : between.state ≡ step_by a.mark old.state a.conversation a.call =
    stepped a.mark at a.conversation a.call a.answer between told_there t ∙ ap (λ (s : CoreState). step_by a.mark s a.conversation a.call) rests.state in
    replayed calls between new (asked_told a.mark at between a.conversation a.call a.answer t ∙ told_there) h ∙ ap (replay (history_of calls)) step

-- ---- the calls that were noted

excused_noted : (place : ℕ) (old : AskedCore) (call : Call) (said : Answer) (new : AskedCore) → IsExcused old place call said new → new.calls ≡ noted_by Kept old place call said
excused_noted place old call said new (inl t) = ap (λ (c : AskedCore). c.calls) t.same
excused_noted place old call said new (inr (inl t)) = ap (λ (c : AskedCore). c.calls) t.same
excused_noted place old call said new (inr (inr (inl t))) = t.calls
excused_noted place old call said new (inr (inr (inr (inl t)))) = ap (λ (c : AskedCore). c.calls) t.same
excused_noted place old call said new (inr (inr (inr (inr t)))) = ap (λ (c : AskedCore). c.calls) t.same

is_noted : (mark : Mark) (old : AskedCore) (place : ℕ) (call : Call) (said : Answer) (new : AskedCore) → IsAsked mark old place call said new → new.calls ≡ noted_by mark old place call said
is_noted Taken old place call said new (inl t) = t.calls
is_noted Taken old place call said new (inr t) = ap (λ (c : AskedCore). c.calls) t.rest
is_noted Kept old place call said new t = excused_noted place old call said new t

pub all_noted : (calls : List AnsweredCall) (old new : AskedCore) → IsHistory old calls new → new.calls ≡ old.calls ++ calls
all_noted [] old new h = h.calls ∙ sym (append-nil old.calls)
all_noted (a ∷ calls) old new (at, between, rests, t, h) =
    all_noted calls between new h
    ∙ ap (λ (l : List AnsweredCall). l ++ calls) (is_noted a.mark at a.conversation a.call a.answer between t ∙ ap (λ (l : List AnsweredCall). l ++ a ∷ []) rests.calls)
    ∙ append_assoc old.calls (a ∷ []) calls

pub calls_are_histories : CallsAreHistories
calls_are_histories = record {
  heard = heard;
  lost = lost;
  happened = λ old new events written. happen_all events old new written;
  begun = begun;
  both = λ a b c before after f g. (before ++ after, history_both a b c before after f g);
  noted = λ old new calls. all_noted calls old new;
  replayed = λ old new calls. replayed calls old new;
}
