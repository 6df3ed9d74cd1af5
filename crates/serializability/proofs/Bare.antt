-- A run without its logs, and the law over calls.
use Rattle.std.proofs.Common.{◌≡◌, ⊎_elim, Bool, true, false, List, [], ◌∷◌, refl, sym, ◌∙◌, ap, subst}
use Rattle.std.specs.Prelude.{if◌then◌else◌}
use Rattle.serializability.specs.Words.{Words, Laws}
use Rattle.serializability.specs.Events.{UnitMap, UnitMapLaws, Outcome, Clashes, TooMany, Done, asked, asked_in, World, Event, Ask, Commit, Leave, happens, lost, start}
use Rattle.serializability.specs.Serial.{Serially}
use Rattle.serializability.specs.Steps.{bare_asked, bare, bare_run, run_events, forget, IsBegun, AllBegun, Calls, Ends, AsksOf, CallLaws, LogsAreBeside, State, step, MarkedCall, replay, Story, told, story, SerialOrderOf}
use Rattle.serializability.proofs.Running.{which, both, Holds, goes_on, at_start}

module _ (w : Words) (k : UnitMap w) (kl : UnitMapLaws w k) where
  forget_asked : (m : World w k) (o : k.Owner) (call : w.Call) (x : Outcome w) → forget w k (asked_in w k m o call x) ≡ bare_asked w k (forget w k m) o x
  forget_asked m o call Clashes = refl
  forget_asked m o call TooMany = refl
  forget_asked m o call (Done a u) = refl

  pub forget_happens : (m : World w k) (e : Event w k) → IsBegun w k m e → forget w k (happens w k m e) ≡ bare w k (forget w k m) e
  forget_happens m (Ask o call) begun =
      let x = asked w (k.others o m.units) m.store (k.unit_of o m.units) call in
      ap (λ b. forget w k (if b then m else asked_in w k m o call x)) begun ∙ forget_asked m o call x
  forget_happens m (Commit o) begun = refl
  forget_happens m (Leave o) begun = refl

  pub forget_run : LogsAreBeside w k
  forget_run m [] all = refl
  forget_run m (e ∷ es) all = forget_run (happens w k m e) es all.1 ∙ ap (λ b. bare_run w k es b) (forget_happens m e all.0)

  found_asked : (m : World w k) (o : k.Owner) (call : w.Call) (x : Outcome w) (b : Bool) → (if b then m else asked_in w k m o call x).found ≡ m.found
  found_asked m o call x true = refl
  found_asked m o call Clashes false = refl
  found_asked m o call TooMany false = refl
  found_asked m o call (Done a u) false = refl

  lost_was : (o p : k.Owner) (found : k.Owner → Bool) → lost w k p found o ≡ true → (found o ≡ true) × ((k.same o p) ≡ false)
  lost_was o p found is =
      ⊎_elim (λ so. both true refl (sym is ∙ ap (λ b. if b then false else found o) so)) (λ ne. (sym (ap (λ b. if b then false else found o) ne) ∙ is, ne)) (which (k.same o p))

  found_was : (m : World w k) (e : Event w k) (o : k.Owner) → (happens w k m e).found o ≡ true → m.found o ≡ true
  found_was m (Ask p call) o is = sym (ap (λ (f : k.Owner → Bool). f o) (found_asked m p call (asked w (k.others p m.units) m.store (k.unit_of p m.units) call) (m.found p))) ∙ is
  found_was m (Commit p) o is = (lost_was o p m.found is).0
  found_was m (Leave p) o is = (lost_was o p m.found is).0

  -- who is found behind some events was so before, and was not ended
  pub found_run : (m : World w k) (es : List (Event w k)) (o : k.Owner) → (run_events w k es m).found o ≡ true → (m.found o ≡ true) × (Ends w k o es → ⊥)
  found_run m [] o is = (is, λ e. e)
  found_run m (Ask p call ∷ es) o is = let r = found_run (happens w k m (Ask p call)) es o is in (found_was m (Ask p call) o r.0, r.1)
  found_run m (Commit p ∷ es) o is =
      let r = found_run (happens w k m (Commit p)) es o is in
      let before = lost_was o p m.found r.0 in (before.0, λ e. ⊎_elim (λ same. both (k.same o p) (subst (λ (x : k.Owner). k.same o x ≡ true) same (kl.same_itself o)) before.1) r.1 e)
  found_run m (Leave p ∷ es) o is =
      let r = found_run (happens w k m (Leave p)) es o is in
      let before = lost_was o p m.found r.0 in (before.0, λ e. ⊎_elim (λ same. both (k.same o p) (subst (λ (x : k.Owner). k.same o x ≡ true) same (kl.same_itself o)) before.1) r.1 e)

  pub all_begun : (m : World w k) (es : List (Event w k)) (closed : k.Owner → Bool) → ((o : k.Owner) → m.found o ≡ true → closed o ≡ true) → AsksOf w k closed es → AllBegun w k m es
  all_begun m [] closed in_doubt asks = tt
  all_begun m (Ask p call ∷ es) closed in_doubt asks =
      (⊎_elim (λ so. both (closed p) (in_doubt p so) asks.0) (λ ne. ne) (which (m.found p)), all_begun (happens w k m (Ask p call)) es closed (λ o is. in_doubt o (found_was m (Ask p call) o is)) asks.1)
  all_begun m (Commit p ∷ es) closed in_doubt asks = (tt, all_begun (happens w k m (Commit p)) es closed (λ o is. in_doubt o (found_was m (Commit p) o is)) asks)
  all_begun m (Leave p ∷ es) closed in_doubt asks = (tt, all_begun (happens w k m (Leave p)) es closed (λ o is. in_doubt o (found_was m (Leave p) o is)) asks)

module _ (w : Words) (l : Laws w) (k : UnitMap w) (kl : UnitMapLaws w k) where
  pub events_hold : (first : w.Store) (es : List (Event w k)) (m : World w k) → Holds w l k kl first m → Holds w l k kl first (run_events w k es m)
  events_hold first [] m h = h
  events_hold first (e ∷ es) m h = events_hold first es (happens w k m e) (goes_on w l k kl first m e h)

module _ (w : Words) (l : Laws w) (k : UnitMap w) (kl : UnitMapLaws w k) (d : Calls w k) (dl : CallLaws w k d) where
  record Fine (first : w.Store) (s : Story w k d) : Type 0 where
    holds : Holds w l k kl first s.world
    in_doubt : (o : k.Owner) → s.world.found o ≡ true → d.prepared s.rest o ≡ true

  abbrev plain : Story w k d → State w k d
  plain s = record { rest = s.rest; base = forget w k s.world }

  one : (first : w.Store) (s : Story w k d) (call : d.Asked) → Fine first s → plain (told w k d s call) ≡ step w k d (plain s) call
  one first s call f =
      let es = d.events s.rest (forget w k s.world) call in
      let same = forget_run w k kl s.world es (all_begun w k kl s.world es (d.prepared s.rest) f.in_doubt (dl.asks s.rest (forget w k s.world) call)) in
      λ i. record { rest = d.next s.rest (forget w k s.world) call; base = same i }

  fine : (first : w.Store) (s : Story w k d) (call : d.Asked) → Fine first s → Fine first (told w k d s call)
  fine first s call f =
      let es = d.events s.rest (forget w k s.world) call in record {
        holds = events_hold w l k kl first es s.world f.holds;
        in_doubt = λ o is.
            let r = found_run w k kl s.world es o is in
            ⊎_elim (λ still. still) (λ ends. absurd (r.1 ends)) (dl.stays s.rest (forget w k s.world) call o (f.in_doubt o r.0));
      }

  all_told : (first : w.Store) (ks : List (MarkedCall w k d)) (s : Story w k d) → Fine first s → Fine first (story w k d ks s) × (plain (story w k d ks s) ≡ replay w k d ks (plain s))
  all_told first [] s f = (f, refl)
  all_told first (x ∷ ks) s f =
      let P : Bool → Type 0 = λ b. Fine first (if b then told w k d s x.call else s) in
      let next = if x.is_taken then told w k d s x.call else s in
      let f2 = ⊎_elim (λ so. subst P (sym so) (fine first s x.call f)) (λ ne. subst P (sym ne) f) (which x.is_taken) in
      let Q : Bool → Type 0 = λ b. plain (if b then told w k d s x.call else s) ≡ (if b then step w k d (plain s) x.call else plain s) in
      let here = ⊎_elim (λ so. subst Q (sym so) (one first s x.call f)) (λ ne. subst Q (sym ne) refl) (which x.is_taken) in
      let rest = all_told first ks next f2 in
      (rest.0, rest.1 ∙ ap (λ t. replay w k d ks t) here)

  pub serial_order_of : SerialOrderOf w k d
  serial_order_of x s units calls sound all in_doubt =
      let r = all_told s calls (record { rest = x; world = start w k s units }) (record { holds = at_start w l k kl s units sound all; in_doubt = in_doubt }) in
      let end = story w k d calls (record { rest = x; world = start w k s units }) in
      let P : w.Store → Type 0 = λ t. Serially w s end.world.ended t in
      (subst P (ap (λ (t : State w k d). t.base.store) r.1) r.0.holds.serial, ap (λ (t : State w k d). t.base) r.1, ap (λ (t : State w k d). t.rest) r.1)
