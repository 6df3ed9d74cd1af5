-- A run so far, station by station.
use Rattle.std.proofs.Common.{◌≡◌, ◌⊎◌, ℕ, Bool, List, [], ◌∷◌, ◌++◌, take, Option, Some, None, inl, inr, refl, sym, ap, subst, ◌∙◌, append_assoc, append-nil, arith}
use Rattle.std.specs.Prelude.{IfSome, MatchOption}
use Rattle.std.specs.List.{All, flat_map}
use Rattle.std.specs.Io.KnownBytes.{Appends}
use Rattle.std.proofs.KnownBytes.{Appends-nil, Appends-trans}
use Rattle.std.proofs.lemmas.List.{flat_map_more}
use Rattle.std.proofs.lemmas.List.Elements.{All-push}
use Rattle.drda_disk.specs.Disk.{Life}
use Rattle.recovery.specs.Journaled.{CallsGoOn, OnDisk}
use Rattle.drda_node.specs.declared.serving.RunEnd.{RunEnd}
use Rattle.drda_node.specs.Asking.{IsJournaled, asked_after}
use Rattle.drda_node.specs.Machine.{Machine}
use Rattle.drda_node.specs.Records.{Event, event_text, IsAllowed}
use Rattle.drda_node.specs.Happening.{Happens}
use Rattle.drda_node.specs.Gathering.{Ends, PassesOn, WritesFront}
use Rattle.drda_node.specs.Reading.{Receives}
use Rattle.drda_node.specs.Stations.{AnswersStay, GoesTo, RunsAlong, Station, Stations, StaysOrGoesOn, TellsCheckpoint, first_station}

module _ {D : Type 0} (modelled : Bool) (life : D → Life) where
  stations_next : (a b c : Station D) (events : List Event) (event : Event) → Stations modelled life a events b → GoesTo modelled life b event c → Stations modelled life a (events ++ event ∷ []) c
  stations_next a b c [] event same goes = (c, subst (λ (s : Station D). GoesTo modelled life s event c) same goes, refl)
  stations_next a b c (e ∷ events) event (next, first, others) goes = (next, first, stations_next next b c events event others goes)

  -- the events that were read are answered, and the rest is still to be read
  pub record IsAlong (first : Station D) (input left : List ℕ) (w0 w : Option (List ℕ)) (gathered : List ℕ) (machine : Machine) (core : OnDisk D) : Type 0 where
    pub events : List Event
    pub allowed : All IsAllowed events
    pub input_is : input ≡ flat_map event_text events ++ left
    pub at : Station D
    pub stations : Stations modelled life first events at
    pub machine_is : at.machine ≡ machine
    pub core_is : at.core ≡ core
    pub gathered_is : at.gathered ≡ gathered
    pub appended : Appends w0 w at.sent

  abbrev pub Along : Station D → Option (List ℕ) → Option (List ℕ) → Option (List ℕ) → Option (List ℕ) → List ℕ → Machine → OnDisk D → Type 0
  Along first r0 r w0 w gathered machine core = IfSome r0 (λ input. MatchOption r ⊥ (λ left. IsAlong first input left w0 w gathered machine core))

  abbrev pub HasRunAlong : Station D → Option (List ℕ) → Option (List ℕ) → Option (List ℕ) → OnDisk D → Type 0
  HasRunAlong first r0 w0 w last = IfSome r0 (λ input. RunsAlong modelled life first input w0 w last)

  pub begins_along : (r w : Option (List ℕ)) (machine : Machine) (core : OnDisk D) → Along (first_station machine core) r r w w [] machine core
  begins_along None w machine core = tt
  begins_along (Some input) w machine core = record {
    events = [];
    allowed = λ k d below. absurd (omega arith);
    input_is = refl;
    at = first_station machine core;
    stations = refl;
    machine_is = refl;
    core_is = refl;
    gathered_is = refl;
    appended = Appends-nil w;
  }

  module _ (first : Station D) (input left left' : List ℕ) (w0 w w' : Option (List ℕ)) (gathered : List ℕ) (between last : Machine) (old new : OnDisk D) (event : Event) (y : List ℕ)
      (so_far : IsAlong first input left w0 w gathered between old) (allowed : IsAllowed event) (took : left ≡ event_text event ++ left') (happens : Happens between event y last)
      (journaled : IsJournaled modelled life old new) (over : last.core ≡ asked_after modelled last.core.calls new) (tells : TellsCheckpoint modelled life old event y new) where
    goes_to : (b : Station D) → b.machine ≡ last → b.core ≡ new
        → ((b.sent ≡ so_far.at.sent) × (b.gathered ≡ gathered ++ y)) ⊎ ((b.sent ≡ so_far.at.sent ++ (gathered ++ y)) × (b.gathered ≡ []))
        → GoesTo modelled life so_far.at event b
    goes_to b machine core sends = record {
      answer = y;
      happens = subst (λ (m : Machine). Happens m event y b.machine) (sym so_far.machine_is) (subst (λ (m : Machine). Happens between event y m) (sym machine) happens);
      over = ap (λ (m : Machine). m.core) machine ∙ over ∙ (λ i. asked_after modelled (sym machine i).core.calls (sym core i));
      checkpoint = subst (λ (c : OnDisk D). TellsCheckpoint modelled life c event y b.core) (sym so_far.core_is) (subst (λ (c : OnDisk D). TellsCheckpoint modelled life old event y c) (sym core) tells);
      journaled = subst (λ (c : OnDisk D). IsJournaled modelled life c b.core) (sym so_far.core_is) (subst (λ (c : OnDisk D). IsJournaled modelled life old c) (sym core) journaled);
      sends = subst (λ (g : List ℕ). ((b.sent ≡ so_far.at.sent) × (b.gathered ≡ g ++ y)) ⊎ ((b.sent ≡ so_far.at.sent ++ (g ++ y)) × (b.gathered ≡ []))) (sym so_far.gathered_is) sends;
    }

    along_at : (b : Station D) → b.machine ≡ last → b.core ≡ new → GoesTo modelled life so_far.at event b → (gathered' : List ℕ) → b.gathered ≡ gathered' → Appends w0 w' b.sent → IsAlong first input left' w0 w' gathered' last new
    along_at b machine core goes gathered' gathered_is appended = record {
      events = so_far.events ++ event ∷ [];
      allowed = All-push IsAllowed so_far.events event so_far.allowed allowed;
      input_is = so_far.input_is ∙ ap (λ (z : List ℕ). flat_map event_text so_far.events ++ z) took ∙ sym (append_assoc (flat_map event_text so_far.events) (event_text event) left')
          ∙ ap (λ (z : List ℕ). z ++ left') (flat_map_more event_text [] so_far.events event);
      at = b;
      stations = stations_next first so_far.at b so_far.events event so_far.stations goes;
      machine_is = machine;
      core_is = core;
      gathered_is = gathered_is;
      appended = appended;
    }

    along_next : (gathered' : List ℕ) → PassesOn w gathered y w' gathered' → IsAlong first input left' w0 w' gathered' last new
    along_next gathered' (inl (none, more)) =
        let b : Station D = record { machine = last; core = new; sent = so_far.at.sent; gathered = gathered' } in
        along_at b refl refl (goes_to b refl refl (inl (refl, more))) gathered' refl
        (subst (λ (z : List ℕ). Appends w0 w' z) (append-nil so_far.at.sent) (Appends-trans w0 w w' so_far.at.sent [] so_far.appended none))
    along_next gathered' (inr (all, nothing)) =
        let b : Station D = record { machine = last; core = new; sent = so_far.at.sent ++ (gathered ++ y); gathered = gathered' } in
        along_at b refl refl (goes_to b refl refl (inr (refl, nothing))) gathered' refl (Appends-trans w0 w w' so_far.at.sent (gathered ++ y) so_far.appended all)

  pub one_more_along : (first : Station D) (r0 r r' w0 w w' : Option (List ℕ)) (between last : Machine) (old new : OnDisk D) (event : Event) (y gathered gathered' : List ℕ) → Along first r0 r w0 w gathered between old → Receives r r' event
      → Happens between event y last → IsJournaled modelled life old new → last.core ≡ asked_after modelled last.core.calls new → TellsCheckpoint modelled life old event y new → PassesOn w gathered y w' gathered' → Along first r0 r' w0 w' gathered' last new
  one_more_along first None r r' w0 w w' between last old new event y gathered gathered' so_far received happens journaled over tells passed = tt
  one_more_along first (Some input) None r' w0 w w' between last old new event y gathered gathered' so_far received happens journaled over tells passed = absurd so_far
  one_more_along first (Some input) (Some left) None w0 w w' between last old new event y gathered gathered' so_far received happens journaled over tells passed = absurd received.consumed
  one_more_along first (Some input) (Some left) (Some left') w0 w w' between last old new event y gathered gathered' so_far received happens journaled over tells passed =
      along_next first input left left' w0 w w' gathered between last old new event y so_far received.allowed received.consumed happens journaled over tells gathered' passed

  -- ---- at its end

  -- something more was written, or nothing
  ended : (first : Station D) (input left : List ℕ) (w0 w w' : Option (List ℕ)) (gathered more : List ℕ) (machine : Machine) (core last : OnDisk D) → IsAlong first input left w0 w gathered machine core → Appends w w' more
      → StaysOrGoesOn modelled life core last → RunsAlong modelled life first input w0 w' last
  ended first input left w0 w w' gathered more machine core last so_far wrote behind = record {
    events = so_far.events;
    rest = left;
    allowed = so_far.allowed;
    input_is = so_far.input_is;
    at = so_far.at;
    stations = so_far.stations;
    behind = subst (λ (c : OnDisk D). StaysOrGoesOn modelled life c last) (sym so_far.core_is) behind;
    more = more;
    written = Appends-trans w0 w w' so_far.at.sent more so_far.appended wrote;
  }

  pub ends_along : (first : Station D) (r0 r w0 w w' : Option (List ℕ)) (machine : Machine) (core last : OnDisk D) (gathered : List ℕ) (end result : RunEnd) → Along first r0 r w0 w gathered machine core
      → Ends w gathered end result w' → StaysOrGoesOn modelled life core last → HasRunAlong first r0 w0 w' last
  ends_along first None r w0 w w' machine core last gathered end result so_far finished behind = tt
  ends_along first (Some input) None w0 w w' machine core last gathered end result so_far finished behind = absurd so_far
  ends_along first (Some input) (Some left) w0 w w' machine core last gathered end result so_far (inl (is, wrote)) behind = ended first input left w0 w w' gathered gathered machine core last so_far wrote behind
  ends_along first (Some input) (Some left) w0 w w' machine core last gathered end result so_far (inr (is, (count, wrote))) behind = ended first input left w0 w w' gathered (take count gathered) machine core last so_far wrote behind

  -- writing failed behind an event
  pub fault_along : (first : Station D) (r0 r w0 w w' : Option (List ℕ)) (machine : Machine) (core last : OnDisk D) (gathered y : List ℕ) → Along first r0 r w0 w gathered machine core
      → WritesFront w w' gathered y → StaysOrGoesOn modelled life core last → HasRunAlong first r0 w0 w' last
  fault_along first None r w0 w w' machine core last gathered y so_far wrote behind = tt
  fault_along first (Some input) None w0 w w' machine core last gathered y so_far wrote behind = absurd so_far
  fault_along first (Some input) (Some left) w0 w w' machine core last gathered y so_far (count, wrote) behind = ended first input left w0 w w' gathered (take count (gathered ++ y)) machine core last so_far wrote behind

  -- nothing was read
  pub not_along : (r w : Option (List ℕ)) (machine : Machine) (core : OnDisk D) → HasRunAlong (first_station machine core) r w w core
  not_along None w machine core = tt
  not_along (Some input) w machine core = record {
    events = [];
    rest = input;
    allowed = λ k d below. absurd (omega arith);
    input_is = refl;
    at = first_station machine core;
    stations = refl;
    behind = inl refl;
    more = [];
    written = Appends-nil w;
  }

  -- ---- what was answered stays

  module _ (go_on : CallsGoOn life) where
    stays_behind : (a b last : OnDisk D) → IsJournaled modelled life a b → StaysOrGoesOn modelled life b last → StaysOrGoesOn modelled life a last
    stays_behind a b last journaled (inl same) = inr (subst (λ (c : OnDisk D). IsJournaled modelled life a c) (sym same) journaled)
    stays_behind a b last journaled (inr more) = inr (go_on.both modelled a b last journaled more)

    all_stay : (a b : Station D) (events : List Event) (last : OnDisk D) → Stations modelled life a events b → StaysOrGoesOn modelled life b.core last → StaysOrGoesOn modelled life a.core last
    all_stay a b [] last same behind = subst (λ (s : Station D). StaysOrGoesOn modelled life s.core last) same behind
    all_stay a b (event ∷ events) last (next, first, others) behind = stays_behind a.core next.core last first.journaled (all_stay next b events last others behind)

    pub answers_stay : AnswersStay modelled life
    answers_stay first at [] more last stations behind = record { mid = first; reached = refl; goes_on = stations; stays = all_stay first at more last stations behind }
    answers_stay first at (event ∷ events) more last (next, goes, others) behind =
        let there = answers_stay next at events more last others behind in
        record { mid = there.mid; reached = (next, goes, there.reached); goes_on = there.goes_on; stays = there.stays }
