-- The core's units and events are those of the law.
use Rattle.std.proofs.Common.{◌≡◌, Bool, true, false, List, [], ◌∷◌, ◌++◌, refl, sym, ap, subst, ◌∙◌, Option, Some, None, if◌then◌else◌}
use Rattle.std.specs.Prelude.{◌||◌}
use Rattle.std.specs.List.{list_any}
use Rattle.tables.specs.Change.{Change}
use Rattle.tables.specs.Tables.{Store, apply}
use Rattle.unit_locks.specs.Claim.{Claim}
use Rattle.unit_locks.specs.Clash.{clash}
use Rattle.core_calls.specs.Answer.{Answer}
use Rattle.core_calls.specs.declared.sql_fault.SqlFault.{SqlFault}
use Rattle.core_model.specs.Units as units
use Rattle.core_model.specs.Units.{Held, Owner, Work as CoreWork, has_any, has_work, is_full, others, unit_of}
use Rattle.core_model.specs.Asked as asked
use Rattle.core_model.specs.Asked.{Question, answer_to, changes_by, claims_of, fit_or, unfit}
use Rattle.core_model.specs.Events as core
use Rattle.core_model.specs.Events.{Base as CoreBase, Event as CoreEvent, asked_of, happens_asked}
use Rattle.core_model.proofs.Owners.{both, others_has, owners_same, same_self, unit_of_gone, unit_of_other, unit_of_set, unit_of_without}
use Rattle.serializability.specs.Words.{Laws, apply_all, clashes, clashes_one}
use Rattle.serializability.specs.Events.{Ask, Event, Outcome, UnitMapLaws, idle, outcome, view}
use Rattle.serializability.specs.Events as unit
use Rattle.serializability.specs.Steps.{Base, bare_asked, bare_run, run_events}
use Rattle.serializability.proofs.Bare.{events_hold, forget_run}
use Rattle.serializability.proofs.Running.{at_start}
use Rattle.serializability.specs.Serial.{Serially}
use Rattle.serializability.proofs.SqlLaws.{of_claims, to_claims}
use Rattle.serializability.specs.CoreWords.{CoreOrder, EventsAreTheirs, core_units, core_words, event_of, events_of, of_work, question_events, to_base, to_work}

no_work : (xs : List Change) (cs : List Claim) → (has_any xs || has_any cs) ≡ false → to_work (record { changes = xs; claims = cs }) ≡ idle core_words
no_work [] [] h = refl
no_work [] (c ∷ cs) h = both true refl h
no_work (x ∷ xs) cs h = both true refl h

pub core_kept : UnitMapLaws core_words core_units
core_kept = record {
  same_itself = same_self;
  same_is = owners_same;
  set_here = λ o u hs. ap to_work (unit_of_set o (of_work u) hs);
  set_elsewhere = λ c o u hs ne. ap to_work (unit_of_other c o (of_work u) hs ne);
  gone = λ o hs. ap to_work (unit_of_gone o hs);
  stays = λ c o hs ne. ap to_work (unit_of_without c o hs ne);
  others_has = λ c o hs x ne i. of_claims x (others o hs) (others_has c o hs x ne (to_claims x (unit_of c hs).claims i));
  has_not = λ o hs none. no_work (unit_of o hs).changes (unit_of o hs).claims none;
}

-- ---- the same words

either_if : (b c : Bool) → (b || c) ≡ (if b then true else c)
either_if true c = refl
either_if false c = refl

same_one : (c : Claim) (ds : List Claim) → list_any (clash c) ds ≡ clashes_one core_words c ds
same_one c [] = refl
same_one c (d ∷ ds) = either_if (clash c d) (list_any (clash c) ds) ∙ ap (λ b. if clash c d then true else b) (same_one c ds)

pub same_clashes : (cs ds : List Claim) → units.clashes cs ds ≡ clashes core_words cs ds
same_clashes [] ds = refl
same_clashes (c ∷ cs) ds =
    either_if (list_any (clash c) ds) (units.clashes cs ds) ∙ (λ i. if same_one c ds i then true else same_clashes cs ds i)

pub same_view : (xs : List Change) (s : Store) → units.apply_all xs s ≡ apply_all core_words xs s
same_view [] s = refl
same_view (x ∷ xs) s = same_view xs (apply x s)

-- ---- the same events

module _ (b : CoreBase) (o : Owner) (ds : List Claim) (u : CoreWork) (cs : List Claim) (a : Answer) (xs : List Change) where
  theirs : Bool → Bool → Base core_words core_units
  theirs p q = to_base (happens_asked b o (if p then asked.Clashes else (if q then asked.TooMany else asked.Done a (asked.kept u cs xs))))

  ours : Bool → Bool → Base core_words core_units
  ours p q = bare_asked core_words core_units (to_base b) o (if p then unit.Clashes else if q then unit.TooMany else unit.Done a (record { changes = u.changes ++ xs; claims = core_words.added u.claims cs }))

  by_cases : (p q : Bool) → theirs p q ≡ ours p q
  unfolding theirs ours
  by_cases true q = refl
  by_cases false true = refl
  by_cases false false = refl

  same_outcome : to_base (happens_asked b o (asked.outcome ds u cs a xs)) ≡ bare_asked core_words core_units (to_base b) o (outcome core_words ds (to_work u) cs a xs)
  unfolding theirs ours
  same_outcome =
      by_cases (units.clashes cs ds) (is_full (core_words.added u.claims cs)) ∙ ap (λ p. ours p (is_full (core_words.added u.claims cs))) (same_clashes cs ds)

same_fit : (b : CoreBase) (o : Owner) (q : Question) (f : Option SqlFault) → (let u = unit_of o b.units in let v = units.view b.store u in
    to_base (happens_asked b o (fit_or f (asked.outcome (others o b.units) u (claims_of q v) (answer_to q (units.left_of u) v) (changes_by q (units.left_of u) v)))) ≡ bare_run core_words core_units (question_events f o q) (to_base b))
same_fit b o q (Some f) = refl
same_fit b o q None =
    let u = unit_of o b.units in
    let sv = same_view u.changes b.store in
    (λ i. to_base (happens_asked b o (asked.outcome (others o b.units) u (claims_of q (sv i)) (answer_to q (units.left_of u) (sv i)) (changes_by q (units.left_of u) (sv i)))))
    ∙ (let v = apply_all core_words u.changes b.store in same_outcome b o (others o b.units) u (claims_of q v) (answer_to q (units.left_of u) v) (changes_by q (units.left_of u) v))

same_event : (b : CoreBase) (e : CoreEvent) → to_base (core.bare b e) ≡ bare_run core_words core_units (event_of e) (to_base b)
same_event b (core.Ask o q) = same_fit b o q (unfit q)
same_event b (core.Commit o) = λ i. record { store = same_view (unit_of o b.units).changes b.store i; units = units.without o b.units }
same_event b (core.Leave o) = refl

run_both : (es fs : List (Event core_words core_units)) (b : Base core_words core_units) → bare_run core_words core_units (es ++ fs) b ≡ bare_run core_words core_units fs (bare_run core_words core_units es b)
run_both [] fs b = refl
run_both (e ∷ es) fs b = run_both es fs _

pub events_are_theirs : EventsAreTheirs
events_are_theirs [] b = refl
events_are_theirs (e ∷ es) b =
    events_are_theirs es (core.bare b e) ∙ ap (bare_run core_words core_units (events_of es)) (same_event b e) ∙ sym (run_both (event_of e) (events_of es) (to_base b))

pub core_serializability : Laws core_words → CoreOrder
core_serializability l s hs es good lie begun =
    let first = unit.start core_words core_units s hs in
    let b : CoreBase = record { store = s; units = hs } in
    let m = run_events core_words core_units (events_of es) first in
    let serial = (events_hold core_words l core_units core_kept s (events_of es) first (at_start core_words l core_units core_kept s hs good lie)).serial in
    let same = forget_run core_words core_units core_kept first (events_of es) begun ∙ sym (events_are_theirs es b) in
    subst (λ (t : Store). Serially core_words s m.ended t) (ap (λ (x : Base core_words core_units). x.store) same) serial
