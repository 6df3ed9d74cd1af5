-- Each record keeps a state sound.
use Rattle.std.proofs.Common.{◌≡◌, ◌≢◌, ℕ, ◌+◌, ◌<◌, ◌≤◌, List, [], ◌∷◌, length, Bool, true, false, ◌&&◌, cond, refl, ap, ◌∙◌, subst, arith, Option, Some, None, Ordering, Less, Equal, Greater}
use Rattle.std.specs.Prelude.{bytes_eq, is_some, not, nat_lt}
use Rattle.std.specs.List.{AllByRecursion, list_all}
use Rattle.std.specs.Ordering.{is_lt, match_ordering, nat_cmp}
use Rattle.std.specs.Cmp.Lexicographic.{nat_list_cmp_total, slice_cmp}
use Rattle.std.specs.Map.{keys_of}
use Rattle.std.proofs.lemmas.Bool.Decides.{nat_tests}
use Rattle.drda_words.specs.Order.{rises}
use Rattle.row_values.proofs.ValueLaws.{both_true, chained, first_true, second_true}
use Rattle.tables.proofs.Finding.{same_bytes}
use Rattle.xa_calls.specs.Xid.{IsXid}
use Rattle.tables.proofs.Keeping.{rises_put}
use Rattle.tables.specs.Change.{Change, create, is_change, put, remove}
use Rattle.tables.specs.Laws.{StoresAreKept}
use Rattle.tables.specs.Tables.{Store, apply}
use Rattle.tables.specs.View.{is_sound, is_store}
use Rattle.unit_locks.specs.Claims.{all_added}
use Rattle.core_model.specs.Units.{Work, apply_all}
use Rattle.unit_journal.specs.Record.{Entry}
use Rattle.xa_manager.specs.declared.due.Decision.{Decision}
use Rattle.xa_manager.specs.declared.due.Decision.TheVariants as decision
use Rattle.unit_records.specs.Records.{IsChange, committed, decided, forgotten, heuristic, prepared}
use Rattle.recovery.specs.Durable.{Doubt, Doubts, Durable, at_checkpoint, completed, decide, decided_so, doubt_of, ended, have_places, is_claimed, is_free, let_go, turned, waiting, with_doubt, without_doubt}
use Rattle.recovery.specs.Sound.{IsGoodBranch, IsGoodDoubt, IsGoodUnit, IsSound, LeadsAreSound, StatesStaySound}
use Rattle.recovery.specs.Journal.{Leads}
use Rattle.recovery.proofs.Claiming.{claimed_once, good_once, same_once}
use Rattle.recovery.proofs.Holding.{completed_is, ended_is, if_some, let_go_is, not_found, not_true, other_xid}

-- ---- the store

sound_of : (change : Change) → is_change change ≡ true → is_sound change ≡ true
sound_of (create name schema) h = h
sound_of (put name row) h = refl
sound_of (remove name key) h = refl

stores_kept : StoresAreKept → (changes : List Change) (s : Store) → AllByRecursion IsChange changes → is_store s ≡ true → is_store (apply_all changes s) ≡ true
stores_kept kept [] s all good = good
stores_kept kept (x ∷ changes) s all good = stores_kept kept changes (apply x s) all.1 (kept x s (sound_of x all.0) good)

-- ---- one more

more_few : (xid : List ℕ) (doubt : Doubt) (e : List ℕ × Doubt) (es rest : Doubts) (o : Ordering) → o ≢ Equal → length rest ≡ length es + 1 → length (match_ordering o ((xid, doubt) ∷ e ∷ es) ((e.0, doubt) ∷ es) (e ∷ rest)) ≡ length (e ∷ es) + 1
more_few xid doubt e es rest Less other more = omega arith
more_few xid doubt e es rest Equal other more = absurd (other refl)
more_few xid doubt e es rest Greater other more = omega arith

one_more : (doubts : Doubts) (xid : List ℕ) (doubt : Doubt) → is_some (doubt_of doubts xid) ≡ false → length (with_doubt doubts xid doubt) ≡ length doubts + 1
one_more [] xid doubt free = omega arith
one_more (e ∷ es) xid doubt free =
    let none = not_found (bytes_eq xid e.0) e.1 (doubt_of es xid) free in
    more_few xid doubt e es (with_doubt es xid doubt) (slice_cmp nat_cmp xid e.0) (other_xid xid e.0 none.0) (one_more es xid doubt none.1)

more_good : (xid : List ℕ) (doubt : Doubt) (e : List ℕ × Doubt) (es rest : Doubts) (o : Ordering) → o ≢ Equal → IsGoodDoubt (xid, doubt) → IsGoodDoubt e → AllByRecursion IsGoodDoubt es → AllByRecursion IsGoodDoubt rest
    → AllByRecursion IsGoodDoubt (match_ordering o ((xid, doubt) ∷ e ∷ es) ((e.0, doubt) ∷ es) (e ∷ rest))
more_good xid doubt e es rest Less other new here all more = (new, (here, all))
more_good xid doubt e es rest Equal other new here all more = absurd (other refl)
more_good xid doubt e es rest Greater other new here all more = (here, more)

all_good : (doubts : Doubts) (xid : List ℕ) (doubt : Doubt) → is_some (doubt_of doubts xid) ≡ false → IsGoodDoubt (xid, doubt) → AllByRecursion IsGoodDoubt doubts → AllByRecursion IsGoodDoubt (with_doubt doubts xid doubt)
all_good [] xid doubt free new all = (new, tt)
all_good (e ∷ es) xid doubt free new all =
    let none = not_found (bytes_eq xid e.0) e.1 (doubt_of es xid) free in
    more_good xid doubt e es (with_doubt es xid doubt) (slice_cmp nat_cmp xid e.0) (other_xid xid e.0 none.0) new all.0 all.1 (all_good es xid doubt none.1 new all.1)

-- ---- one fewer

fewer_few : (e : List ℕ × Doubt) (es rest : Doubts) (b : Bool) → length rest ≤ length es → length (cond b es (e ∷ rest)) ≤ length (e ∷ es)
fewer_few e es rest true less = omega arith
fewer_few e es rest false less = omega arith

one_fewer : (doubts : Doubts) (xid : List ℕ) → length (without_doubt doubts xid) ≤ length doubts
one_fewer [] xid = omega arith
one_fewer (e ∷ es) xid = fewer_few e es (without_doubt es xid) (bytes_eq xid e.0) (one_fewer es xid)

fewer_good : (e : List ℕ × Doubt) (es rest : Doubts) (b : Bool) → IsGoodDoubt e → AllByRecursion IsGoodDoubt es → AllByRecursion IsGoodDoubt rest → AllByRecursion IsGoodDoubt (cond b es (e ∷ rest))
fewer_good e es rest true here all more = all
fewer_good e es rest false here all more = (here, more)

others_good : (doubts : Doubts) (xid : List ℕ) → AllByRecursion IsGoodDoubt doubts → AllByRecursion IsGoodDoubt (without_doubt doubts xid)
others_good [] xid all = tt
others_good (e ∷ es) xid all = fewer_good e es (without_doubt es xid) (bytes_eq xid e.0) all.0 all.1 (others_good es xid all.1)

fewer_pass : (p : List ℕ → Bool) (e : List ℕ × Doubt) (es rest : Doubts) (b : Bool) → p e.0 ≡ true → list_all p (keys_of es) ≡ true → list_all p (keys_of rest) ≡ true → list_all p (keys_of (cond b es (e ∷ rest))) ≡ true
fewer_pass p e es rest true here all more = all
fewer_pass p e es rest false here all more = both_true (p e.0) (list_all p (keys_of rest)) here more

others_pass : (p : List ℕ → Bool) (doubts : Doubts) (xid : List ℕ) → list_all p (keys_of doubts) ≡ true → list_all p (keys_of (without_doubt doubts xid)) ≡ true
others_pass p [] xid all = refl
others_pass p (e ∷ es) xid all =
    let here = first_true (p e.0) (list_all p (keys_of es)) all in
    let rest = second_true (p e.0) (list_all p (keys_of es)) all in
    fewer_pass p e es (without_doubt es xid) (bytes_eq xid e.0) here rest (others_pass p es xid rest)

abbrev rise : Doubts → Bool
rise doubts = rises (slice_cmp nat_cmp) (keys_of doubts)

abbrev after : List ℕ → List ℕ → Bool
after k later = is_lt (slice_cmp nat_cmp k later)

fewer_rise : (e : List ℕ × Doubt) (es rest : Doubts) (b : Bool) → rise es ≡ true → list_all (after e.0) (keys_of rest) ≡ true → rise rest ≡ true → rise (cond b es (e ∷ rest)) ≡ true
fewer_rise e es rest true all later more = all
fewer_rise e es rest false all later more = both_true (list_all (after e.0) (keys_of rest)) (rise rest) later more

others_rise : (doubts : Doubts) (xid : List ℕ) → rise doubts ≡ true → rise (without_doubt doubts xid) ≡ true
others_rise [] xid all = refl
others_rise (e ∷ es) xid all =
    let here = first_true (list_all (after e.0) (keys_of es)) (rise es) all in
    let rest = second_true (list_all (after e.0) (keys_of es)) (rise es) all in
    fewer_rise e es (without_doubt es xid) (bytes_eq xid e.0) rest (others_pass (after e.0) es xid here) (others_rise es xid rest)

-- ---- another in its place

turned_few : (e : List ℕ × Doubt) (new : Doubt) (es rest : Doubts) (b : Bool) → length rest ≡ length es → length (cond b ((e.0, new) ∷ es) (e ∷ rest)) ≡ length (e ∷ es)
turned_few e new es rest true same = refl
turned_few e new es rest false same = omega (arith, same)

as_many : (doubts : Doubts) (xid : List ℕ) (new : Doubt) → length (turned doubts xid new) ≡ length doubts
as_many [] xid new = refl
as_many (e ∷ es) xid new = turned_few e new es (turned es xid new) (bytes_eq xid e.0) (as_many es xid new)

turned_key : (e : List ℕ × Doubt) (new : Doubt) (es rest : Doubts) (b : Bool) → keys_of rest ≡ keys_of es → keys_of (cond b ((e.0, new) ∷ es) (e ∷ rest)) ≡ keys_of (e ∷ es)
turned_key e new es rest true same = refl
turned_key e new es rest false same = ap (λ (l : List (List ℕ)). e.0 ∷ l) same

pub same_keys : (doubts : Doubts) (xid : List ℕ) (new : Doubt) → keys_of (turned doubts xid new) ≡ keys_of doubts
same_keys [] xid new = refl
same_keys (e ∷ es) xid new = turned_key e new es (turned es xid new) (bytes_eq xid e.0) (same_keys es xid new)

turned_good : (xid : List ℕ) (o : Decision) (e : List ℕ × Doubt) (es rest : Doubts) (b : Bool) → IsXid xid → bytes_eq xid e.0 ≡ b → IsGoodDoubt e → AllByRecursion IsGoodDoubt es → AllByRecursion IsGoodDoubt rest
    → AllByRecursion IsGoodDoubt (cond b ((e.0, completed o) ∷ es) (e ∷ rest))
turned_good xid o e es rest true named is here all more = ((subst IsXid (same_bytes xid e.0 is) named, refl), all)
turned_good xid o e es rest false named is here all more = (here, more)

still_good : (doubts : Doubts) (xid : List ℕ) (o : Decision) → IsXid xid → AllByRecursion IsGoodDoubt doubts → AllByRecursion IsGoodDoubt (turned doubts xid (completed o))
still_good [] xid o named all = tt
still_good (e ∷ es) xid o named all = turned_good xid o e es (turned es xid (completed o)) (bytes_eq xid e.0) named refl all.0 all.1 (still_good es xid o named all.1)

-- the unit of a branch that is found waiting
found_good : (b : Bool) (e : List ℕ × Doubt) (o : Option Doubt) (doubt : Doubt) → IsGoodDoubt e → cond b (Some e.1) o ≡ Some doubt → doubt.outcome ≡ None → (o ≡ Some doubt → AllByRecursion IsChange doubt.work.changes) → AllByRecursion IsChange doubt.work.changes
found_good true e o doubt good is waits other =
    let same : e.1 ≡ doubt = cc in
    let unit : IsGoodUnit e.0 e.1.work = subst (λ (p : Option Decision). IsGoodBranch e.0 e.1.work p) (ap (λ (d : Doubt). d.outcome) same ∙ waits) good in
    subst (λ (d : Doubt). AllByRecursion IsChange d.work.changes) same unit.good.2.1
found_good false e o doubt good is waits other = other is

work_good : (doubts : Doubts) (xid : List ℕ) (doubt : Doubt) → AllByRecursion IsGoodDoubt doubts → doubt_of doubts xid ≡ Some doubt → doubt.outcome ≡ None → AllByRecursion IsChange doubt.work.changes
work_good [] xid doubt all is waits = absurd cc
work_good (e ∷ es) xid doubt all is waits = found_good (bytes_eq xid e.0) e (doubt_of es xid) doubt all.0 is waits (λ h. work_good es xid doubt all.1 h waits)

-- ---- records

decided_kept : StoresAreKept → (o : Decision) (s : Store) (work : Work) → AllByRecursion IsChange work.changes → is_store s ≡ true → is_store (decide o s work) ≡ true
decided_kept kept decision.Commit s work all good = stores_kept kept work.changes s all good
decided_kept kept decision.RollBack s work all good = good

heuristic_sound : StoresAreKept → (d e : Durable) (xid : List ℕ) (o : Decision) → IsXid xid → (found : Option Doubt) → doubt_of d.doubts xid ≡ found → decided_so d xid o found ≡ Some e → IsSound d → IsSound e
heuristic_sound kept d e xid o named None is h sound =
    let more = if_some (nat_lt (length d.doubts) 256) _ e h in
    let unknown : is_some (doubt_of d.doubts xid) ≡ false = ap is_some is in
    let room = more.0 in
    let below : length d.doubts < 256 = grind (arith, nat_tests) in
    let count = one_more d.doubts xid (completed o) unknown in
    subst IsSound more.1 (record {
      store = sound.store;
      rising = rises_put (slice_cmp nat_cmp) nat_list_cmp_total xid (completed o) d.doubts sound.rising;
      few = omega (arith, count, below);
      good = all_good d.doubts xid (completed o) unknown (named, refl) sound.good;
    })
heuristic_sound kept d e xid o named (Some doubt) is h sound =
    let c = completed_is d xid o doubt.work doubt.outcome e h in
    let count = as_many d.doubts xid (completed o) in
    subst IsSound c.1 (record {
      store = decided_kept kept o d.store doubt.work (work_good d.doubts xid doubt sound.good is c.0) sound.store;
      rising = ap (λ (l : List (List ℕ)). rises (slice_cmp nat_cmp) l) (same_keys d.doubts xid (completed o)) ∙ sound.rising;
      few = omega (arith, count, sound.few);
      good = still_good d.doubts xid o named sound.good;
    })

pub states_stay_sound : StoresAreKept → StatesStaySound
states_stay_sound kept d e (committed changes) good h sound =
    let is = if_some (have_places changes d.store) _ e h in
    subst IsSound is.1 (record { store = stores_kept kept changes d.store good.1 sound.store; rising = sound.rising; few = sound.few; good = sound.good })
states_stay_sound kept d e (prepared xid changes claims) good h sound =
    let is = if_some (have_places changes d.store && (is_claimed changes claims && is_free d.doubts xid)) _ e h in
    let both = second_true (have_places changes d.store) (is_claimed changes claims && is_free d.doubts xid) is.0 in
    let claimed = first_true (is_claimed changes claims) (is_free d.doubts xid) both in
    let free = second_true (is_claimed changes claims) (is_free d.doubts xid) both in
    let unknown = not_true (is_some (doubt_of d.doubts xid)) (first_true (not (is_some (doubt_of d.doubts xid))) (nat_lt (length d.doubts) 256) free) in
    let room = second_true (not (is_some (doubt_of d.doubts xid))) (nat_lt (length d.doubts) 256) free in
    let below : length d.doubts < 256 = grind (arith, nat_tests) in
    let work : Work = record { changes = changes; claims = all_added [] claims } in
    let new : IsGoodDoubt (xid, waiting work) = record { good = (good.0, good_once claims good.1, good.2); claimed = claimed_once changes claims claimed; once = same_once claims } in
    let count = one_more d.doubts xid (waiting work) unknown in
    subst IsSound is.1 (record {
      store = sound.store;
      rising = rises_put (slice_cmp nat_cmp) nat_list_cmp_total xid (waiting work) d.doubts sound.rising;
      few = omega (arith, count, below);
      good = all_good d.doubts xid (waiting work) unknown new sound.good;
    })
states_stay_sound kept d e (decided xid o) good h sound =
    let found = chained (ended d xid o) (doubt_of d.doubts xid) e h in
    let is = ended_is d xid o found.0.work found.0.outcome e found.2 in
    let count = one_fewer d.doubts xid in
    subst IsSound is.1 (record {
      store = decided_kept kept o d.store found.0.work (work_good d.doubts xid found.0 sound.good found.1 is.0) sound.store;
      rising = others_rise d.doubts xid sound.rising;
      few = omega (arith, count, sound.few);
      good = others_good d.doubts xid sound.good;
    })
states_stay_sound kept d e (heuristic xid o) good h sound = heuristic_sound kept d e xid o good (doubt_of d.doubts xid) refl h sound
states_stay_sound kept d e (forgotten xid) good h sound =
    let found = chained (let_go d xid) (doubt_of d.doubts xid) e h in
    let is = let_go_is d xid found.0.outcome e found.2 in
    let count = one_fewer d.doubts xid in
    subst IsSound is.1 (record { store = sound.store; rising = others_rise d.doubts xid sound.rising; few = omega (arith, count, sound.few); good = others_good d.doubts xid sound.good })

-- ---- from the first record on

stays_sound : StatesStaySound → (d e : Durable) (es : List Entry) → IsSound d → Leads d es e → IsSound e
stays_sound step d e [] sound leads = subst IsSound leads sound
stays_sound step d e (x ∷ es) sound leads = stays_sound step leads.0 e es (step d leads.0 leads.1.said leads.1.is.good leads.1.step sound) leads.2

checkpoint_sound : (store : Store) → is_store store ≡ true → IsSound (at_checkpoint store)
checkpoint_sound store good = record { store = good; rising = refl; few = omega arith; good = tt }

pub leads_are_sound : StatesStaySound → LeadsAreSound
leads_are_sound step store d es good leads = stays_sound step (at_checkpoint store) d es (checkpoint_sound store good) leads
