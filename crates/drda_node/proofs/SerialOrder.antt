-- What a machine answers is in serial order.
use Rattle.std.proofs.Common.{◌≡◌, inl, inr, [], ◌∷◌, true, sym, ap, subst, ◌∙◌}
use Rattle.std.proofs.lemmas.Bool.{false≢true}
use Rattle.core_calls.specs.Call.{Call}
use Rattle.core_calls.specs.Answer.{Answer}
use Rattle.core_model.specs.Step.{CoreState, Kept, Mark, Taken, step_by}
use Rattle.serializability.specs.Belonging.{is_excuse}
use Rattle.serializability.specs.Answered.{AnswersAreSerial, CallsLead, CallsLeadOn, IsAnswer}
use Rattle.drda_node.specs.Asking.{AskedCore, IsExcused}
use Rattle.drda_node.specs.Calls.{IsAsked}
use Rattle.drda_node.proofs.Histories.{asked_told}
use Rattle.drda_node.specs.Serial.{HistoriesLead, MachinesAreSerial, SaneOpeningsBegin}

excused : (old new : AskedCore) (place : _) (k : Call) (a : Answer) → IsExcused old place k a new → (is_excuse a ≡ true) × (new.state ≡ old.state)
excused old new place k a (inl x) = (ap is_excuse x.answer_is, ap (λ (c : AskedCore). c.state) x.same)
excused old new place k a (inr (inl x)) = (ap is_excuse x.answer_is, ap (λ (c : AskedCore). c.state) x.same)
excused old new place k a (inr (inr (inl x))) = (ap is_excuse x.answer_is, x.state)
excused old new place k a (inr (inr (inr (inl x)))) = (ap is_excuse x.answer_is, ap (λ (c : AskedCore). c.state) x.same)
excused old new place k a (inr (inr (inr (inr x)))) = (ap is_excuse x.answer_is, ap (λ (c : AskedCore). c.state) x.same)

one : (m : Mark) (old new : AskedCore) (place : _) (k : Call) (a : Answer) → old.is_told ≡ true → IsAsked m old place k a new → IsAnswer m old.state place k a × (new.state ≡ step_by m old.state place k)
one Taken old new place k a told (inl x) = (x.answer_is, x.state)
one Taken old new place k a told (inr x) = absurd (false≢true (sym x.untold ∙ told))
one Kept old new place k a told x = excused old new place k a x

pub histories_lead : CallsLeadOn → HistoriesLead
histories_lead on old new [] told rests = subst (λ (s : CoreState). CallsLead old.state [] s) (sym rests.state) (on.none old.state)
histories_lead on old new (a ∷ calls) told (at, between, rests, asked, h) =
    let told_there : at.is_told ≡ true = rests.told ∙ told in
    let first = one a.mark at between a.conversation a.call a.answer told_there asked in
    subst (λ (s : CoreState). CallsLead s (a ∷ calls) new.state) rests.state
    (on.both at.state between.state new.state (a ∷ []) calls
    (subst (λ (s : CoreState). CallsLead at.state (a ∷ []) s) (sym first.1) (on.one at.state a first.0)) (histories_lead on between new calls (asked_told a.mark at between a.conversation a.call a.answer asked ∙ told_there) h))

pub sane_openings_begin : SaneOpeningsBegin
sane_openings_begin d opening sane = record { sound = opening.sound; lie = sane.lie; rising = opening.rising; prepared = opening.prepared }

pub machines_are_serial : CallsLeadOn → AnswersAreSerial → MachinesAreSerial
machines_are_serial on serial old new calls told begins h = serial old.state new.state calls begins (histories_lead on old new calls told h)
