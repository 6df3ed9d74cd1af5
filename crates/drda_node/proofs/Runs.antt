-- A run so far, one event further on, and at its end.
use Rattle.std.proofs.Common.{◌≡◌, ℕ, ◌+◌, List, [], ◌∷◌, ◌++◌, length, take, Option, Some, None, inl, inr, refl, sym, ap, subst, ◌∙◌, append_assoc, append-nil, arith}
use Rattle.std.specs.Prelude.{IfSome, MatchOption}
use Rattle.std.specs.List.{flat_map}
use Rattle.std.specs.Io.KnownBytes.{Appends}
use Rattle.std.proofs.KnownBytes.{Appends-nil, Appends-trans}
use Rattle.std.proofs.lemmas.List.{flat_map_more}
use Rattle.std.proofs.lemmas.List.Elements.{All-push}
use Rattle.drda_node.proofs.Written.{appends_front}
use Rattle.drda_node.specs.declared.serving.RunEnd.{RunEnd}
use Rattle.drda_node.specs.declared.serving.RunEnd.TheVariants.{Ended, BadEvent, ReadFault, WriteFault, NoMemory}
use Rattle.drda_node.specs.Machine.{Machine}
use Rattle.drda_node.specs.Records.{Event, event_text, IsAllowed, IsBad}
use Rattle.drda_node.specs.Happening.{BreaksOff, Happens, HappenAll}
use Rattle.drda_node.specs.Gathering.{Ends, PassesOn, WritesFront}
use Rattle.drda_node.specs.Reading.{Receives}
use Rattle.drda_node.specs.Serving.{Answered, GoesOn, Leaves, Runs, Serves}

happen_next : (events : List Event) (event : Event) (first between last : Machine) (x y : List ℕ) → HappenAll first events x between → Happens between event y last → HappenAll first (events ++ event ∷ []) (x ++ y) last
happen_next [] event first between last x y p q =
    let here : Happens first event y last = subst (λ (m : Machine). Happens m event y last) p.1 q in
    (y, [], last, here, ap (λ (z : List ℕ). z ++ y) p.0 ∙ sym (append-nil y), (refl, refl))
happen_next (e ∷ events) event first between last x y p q =
    (p.0, p.1 ++ y, p.2, p.3, ap (λ (z : List ℕ). z ++ y) p.4 ∙ append_assoc p.0 p.1 y, happen_next events event p.2 between last p.1 y p.5 q)

-- The events that were read are answered, and the rest is still to be read. Of the answers a prefix is written, and the
-- others are gathered.
pub record Gathers (first : Machine) (input : List ℕ) (w0 : Option (List ℕ)) (left : List ℕ) (w : Option (List ℕ)) (gathered : List ℕ) (now : Machine) : Type 0 where
  pub written : List ℕ
  pub answered : Answered first input written left now
  pub sent : List ℕ
  pub appended : Appends w0 w sent
  pub parts : written ≡ sent ++ gathered

abbrev pub SoFar : Machine → Option (List ℕ) → Option (List ℕ) → Option (List ℕ) → Option (List ℕ) → List ℕ → Machine → Type 0
SoFar first r0 r w0 w gathered now = IfSome r0 (λ input. MatchOption r ⊥ (λ left. Gathers first input w0 left w gathered now))

none_answered : (input : List ℕ) (first : Machine) → Answered first input [] input first
none_answered input first = record { events = []; allowed = λ k d below. absurd (omega arith); input_is = refl; happened = (refl, refl) }

pub starts : (r w : Option (List ℕ)) (first : Machine) → SoFar first r r w w [] first
starts None w first = tt
starts (Some input) w first = record {
  written = [];
  answered = none_answered input first;
  sent = [];
  appended = Appends-nil w;
  parts = refl;
}

answered_next : (first between last : Machine) (input x left y left' : List ℕ) (event : Event) → Answered first input x left between → IsAllowed event → left ≡ event_text event ++ left' → Happens between event y last
    → Answered first input (x ++ y) left' last
answered_next first between last input x left y left' event p allowed took happens = record {
  events = p.events ++ event ∷ [];
  allowed = All-push IsAllowed p.events event p.allowed allowed;
  input_is = p.input_is ∙ ap (λ (z : List ℕ). flat_map event_text p.events ++ z) took ∙ sym (append_assoc (flat_map event_text p.events) (event_text event) left')
      ∙ ap (λ (z : List ℕ). z ++ left') (flat_map_more event_text [] p.events event);
  happened = happen_next p.events event first between last x y p.happened happens;
}

pub one_more : (r0 r r' w0 w w' : Option (List ℕ)) (first between last : Machine) (event : Event) (y gathered gathered' : List ℕ) → SoFar first r0 r w0 w gathered between → Receives r r' event → Happens between event y last
    → PassesOn w gathered y w' gathered' → SoFar first r0 r' w0 w' gathered' last
one_more None r r' w0 w w' first between last event y gathered gathered' so_far received happens passed = tt
one_more (Some input) None r' w0 w w' first between last event y gathered gathered' so_far received happens passed = absurd so_far
one_more (Some input) (Some left) None w0 w w' first between last event y gathered gathered' so_far received happens passed = absurd received.consumed
one_more (Some input) (Some left) (Some left') w0 w w' first between last event y gathered gathered' so_far received happens (inl (none, more)) =
    record {
      written = so_far.written ++ y;
      answered = answered_next first between last input so_far.written left y left' event so_far.answered received.allowed received.consumed happens;
      sent = so_far.sent;
      appended = subst (λ (z : List ℕ). Appends w0 w' z) (append-nil so_far.sent) (Appends-trans w0 w w' so_far.sent [] so_far.appended none);
      parts = ap (λ (z : List ℕ). z ++ y) so_far.parts ∙ append_assoc so_far.sent gathered y ∙ ap (λ (z : List ℕ). so_far.sent ++ z) (sym more);
    }
one_more (Some input) (Some left) (Some left') w0 w w' first between last event y gathered gathered' so_far received happens (inr (all, nothing)) =
    let sent_is : so_far.written ++ y ≡ so_far.sent ++ (gathered ++ y) = ap (λ (z : List ℕ). z ++ y) so_far.parts ∙ append_assoc so_far.sent gathered y in
    record {
      written = so_far.written ++ y;
      answered = answered_next first between last input so_far.written left y left' event so_far.answered received.allowed received.consumed happens;
      sent = so_far.sent ++ (gathered ++ y);
      appended = Appends-trans w0 w w' so_far.sent (gathered ++ y) so_far.appended all;
      parts = sent_is ∙ sym (append-nil (so_far.sent ++ (gathered ++ y))) ∙ ap (λ (z : List ℕ). (so_far.sent ++ (gathered ++ y)) ++ z) (sym nothing);
    }

-- all that was gathered is written
whole : (first now : Machine) (input left gathered : List ℕ) (w0 w w' : Option (List ℕ)) → Gathers first input w0 left w gathered now → Appends w w' gathered → Serves first input w0 left w' now
whole first now input left gathered w0 w w' so_far wrote = record {
  written = so_far.written;
  answered = so_far.answered;
  appended = subst (λ (z : List ℕ). Appends w0 w' z) (sym so_far.parts) (Appends-trans w0 w w' so_far.sent gathered so_far.appended wrote);
}

-- ---- what is left behind the events that are answered

same_goes_on : (m : Machine) → GoesOn m m
same_goes_on m = record { settings = refl; more = []; done = sym (append-nil m.core.made.done); failed = λ failed. failed }

none_begun : (m : Machine) (rest : List ℕ) → Leaves m rest m
none_begun m rest = record { goes_on = same_goes_on m; begun = inl refl }

-- a prefix of it is written
broken_off : (first now last : Machine) (input left gathered : List ℕ) (w0 w w' : Option (List ℕ)) → Gathers first input w0 left w gathered now → (count : ℕ) × Appends w w' (take count gathered) → Leaves now left last
    → Runs first input w0 WriteFault w' last
broken_off first now last input left gathered w0 w w' so_far wrote leaves = (
  so_far.written,
  left,
  length so_far.sent + wrote.0,
  now,
  so_far.answered,
  subst (λ (z : List ℕ). Appends w0 w' (take (length so_far.sent + wrote.0) z)) (sym so_far.parts) (appends_front w0 w w' so_far.sent gathered wrote.0 so_far.appended wrote.1),
  leaves,
)

pub ends : (r0 r w0 w w' : Option (List ℕ)) (first now : Machine) (gathered : List ℕ) (end : RunEnd) → SoFar first r0 r w0 w gathered now → IfSome r (λ left. left ≡ []) → Ends w gathered Ended end w' → IfSome r0 (λ input. Runs first input w0 end w' now)
ends None r w0 w w' first now gathered end so_far nothing finished = tt
ends (Some input) None w0 w w' first now gathered end so_far nothing finished = absurd so_far
ends (Some input) (Some left) w0 w w' first now gathered end so_far nothing (inl (is, wrote)) =
    subst (λ (e : RunEnd). Runs first input w0 e w' now) (sym is) (subst (λ (z : List ℕ). Serves first input w0 z w' now) nothing (whole first now input left gathered w0 w w' so_far wrote))
ends (Some input) (Some left) w0 w w' first now gathered end so_far nothing (inr (is, wrote)) =
    subst (λ (e : RunEnd). Runs first input w0 e w' now) (sym is) (broken_off first now now input left gathered w0 w w' so_far wrote (none_begun now left))

pub is_bad : (r0 r w0 w w' : Option (List ℕ)) (first now : Machine) (gathered : List ℕ) (end : RunEnd) → SoFar first r0 r w0 w gathered now → IfSome r IsBad → Ends w gathered BadEvent end w' → IfSome r0 (λ input. Runs first input w0 end w' now)
is_bad None r w0 w w' first now gathered end so_far bad finished = tt
is_bad (Some input) None w0 w w' first now gathered end so_far bad finished = absurd so_far
is_bad (Some input) (Some left) w0 w w' first now gathered end so_far bad (inl (is, wrote)) =
    subst (λ (e : RunEnd). Runs first input w0 e w' now) (sym is) (left, bad, whole first now input left gathered w0 w w' so_far wrote)
is_bad (Some input) (Some left) w0 w w' first now gathered end so_far bad (inr (is, wrote)) =
    subst (λ (e : RunEnd). Runs first input w0 e w' now) (sym is) (broken_off first now now input left gathered w0 w w' so_far wrote (none_begun now left))

pub read_fault : (r0 r w0 w w' : Option (List ℕ)) (first now : Machine) (gathered : List ℕ) (end : RunEnd) → SoFar first r0 r w0 w gathered now → Ends w gathered ReadFault end w' → IfSome r0 (λ input. Runs first input w0 end w' now)
read_fault None r w0 w w' first now gathered end so_far finished = tt
read_fault (Some input) None w0 w w' first now gathered end so_far finished = absurd so_far
read_fault (Some input) (Some left) w0 w w' first now gathered end so_far (inl (is, wrote)) =
    subst (λ (e : RunEnd). Runs first input w0 e w' now) (sym is) (left, whole first now input left gathered w0 w w' so_far wrote)
read_fault (Some input) (Some left) w0 w w' first now gathered end so_far (inr (is, wrote)) =
    subst (λ (e : RunEnd). Runs first input w0 e w' now) (sym is) (broken_off first now now input left gathered w0 w w' so_far wrote (none_begun now left))

-- nothing was read
pub not_begun : (r w : Option (List ℕ)) (first : Machine) → IfSome r (λ input. Runs first input w NoMemory w first)
not_begun None w first = tt
not_begun (Some input) w first = (input, first, record { written = []; answered = none_answered input first; appended = Appends-nil w }, none_begun first input)

-- an event was read and is not answered
pub no_memory : (r0 r r' w0 w w' : Option (List ℕ)) (first between last : Machine) (event : Event) (gathered : List ℕ) (end : RunEnd) → SoFar first r0 r w0 w gathered between → Receives r r' event
    → BreaksOff between event last → GoesOn between last → Ends w gathered NoMemory end w' → IfSome r0 (λ input. Runs first input w0 end w' last)
no_memory None r r' w0 w w' first between last event gathered end so_far received breaks goes_on finished = tt
no_memory (Some input) None r' w0 w w' first between last event gathered end so_far received breaks goes_on finished = absurd so_far
no_memory (Some input) (Some left) None w0 w w' first between last event gathered end so_far received breaks goes_on finished = absurd received.consumed
no_memory (Some input) (Some left) (Some left') w0 w w' first between last event gathered end so_far received breaks goes_on (inl (is, wrote)) =
    subst (λ (e : RunEnd). Runs first input w0 e w' last) (sym is) (
      left,
      between,
      whole first between input left gathered w0 w w' so_far wrote,
      record { goes_on = goes_on; begun = inr (event, left', received.allowed, received.consumed, breaks) },
    )
no_memory (Some input) (Some left) (Some left') w0 w w' first between last event gathered end so_far received breaks goes_on (inr (is, wrote)) =
    subst (λ (e : RunEnd). Runs first input w0 e w' last) (sym is)
    (broken_off first between last input left gathered w0 w w' so_far wrote (record { goes_on = goes_on; begun = inr (event, left', received.allowed, received.consumed, breaks) }))

pub write_fault : (r0 r r' w0 w w' : Option (List ℕ)) (first between last : Machine) (event : Event) (y gathered : List ℕ) → SoFar first r0 r w0 w gathered between → Receives r r' event → Happens between event y last
    → WritesFront w w' gathered y → IfSome r0 (λ input. Runs first input w0 WriteFault w' last)
write_fault None r r' w0 w w' first between last event y gathered so_far received happens wrote = tt
write_fault (Some input) None r' w0 w w' first between last event y gathered so_far received happens wrote = absurd so_far
write_fault (Some input) (Some left) None w0 w w' first between last event y gathered so_far received happens wrote = absurd received.consumed
write_fault (Some input) (Some left) (Some left') w0 w w' first between last event y gathered so_far received happens wrote =
    let sent_is : so_far.written ++ y ≡ so_far.sent ++ (gathered ++ y) = ap (λ (z : List ℕ). z ++ y) so_far.parts ∙ append_assoc so_far.sent gathered y in (
      so_far.written ++ y,
      left',
      length so_far.sent + wrote.0,
      last,
      answered_next first between last input so_far.written left y left' event so_far.answered received.allowed received.consumed happens,
      subst (λ (z : List ℕ). Appends w0 w' (take (length so_far.sent + wrote.0) z)) (sym sent_is) (appends_front w0 w w' so_far.sent (gathered ++ y) wrote.0 so_far.appended wrote.1),
      none_begun last left',
    )
