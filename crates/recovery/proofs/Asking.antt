-- A question that is done keeps what is kept: its changes have their places in what its unit sees, and where
-- they create a table no other unit does.
use Rattle.std.proofs.Common.{◌≡◌, ⊎_elim, Bool, true, false, List, [], ◌∷◌, ◌++◌, refl, sym, ◌∙◌, subst}
use Rattle.std.specs.List.{AllByRecursion}
use Rattle.row_values.proofs.ValueLaws.{both_true}
use Rattle.tables.specs.Change.{Change}
use Rattle.tables.specs.Laws.{StoresAreKept}
use Rattle.tables.specs.View.{is_store}
use Rattle.unit_locks.specs.Claim.{Claim}
use Rattle.unit_locks.specs.Claims.{AddsClaims, all_added}
use Rattle.unit_locks.specs.Clash.{clash}
use Rattle.core_calls.specs.Answer.{Answer}
use Rattle.core_model.specs.Units.{Held, Owner, Work, clashes, left_of, others, same_owner, set_unit, unit_of, view}
use Rattle.core_model.specs.Asked.{Done, Question, answer_to, changes_by, claims_of, kept, unfit}
use Rattle.core_model.specs.Events.{Ask, Base, bare, happens_asked}
use Rattle.core_model.proofs.Asking.{all_apart, through}
use Rattle.core_model.proofs.Owners.{both, others_has, owners_same, same_self, unit_of_other, unit_of_set, which}
use Rattle.unit_records.specs.Records.{IsChange}
use Rattle.recovery.specs.Durable.{creates_none, have_places, names_claim}
use Rattle.recovery.specs.Places.{PlacesGoOn}
use Rattle.recovery.specs.QuestionPlaces.{ArePlaced, ChangesHavePlaces, CreationsClaimNames}
use Rattle.recovery.proofs.UnitClaims.{ClaimsNames, claimed_if, either_creates, names_in, names_more, none_created, once_all}
use Rattle.recovery.proofs.Safe.{IsSafe, IsUnit, stores_kept}

turned : (o p : Owner) → same_owner o p ≡ false → same_owner p o ≡ false
turned o p ne = ⊎_elim (λ so. both (same_owner o p) (subst (λ (x : Owner). same_owner o x ≡ true) (sym (owners_same p o so)) (same_self o)) ne) (λ n. n) (which (same_owner p o))

-- what holds of the unit that was set and of those before holds of each unit then
pub set : (o : Owner) (w : Work) (hs : List Held) (P : Work → Type 0) (p : Owner) → (p ≡ o → P w) → (same_owner p o ≡ false → P (unit_of p hs)) → P (unit_of p (set_unit o w hs))
set o w hs P p here there =
    ⊎_elim
    (λ so. subst (λ (n : Owner). P (unit_of n (set_unit o w hs))) (sym (owners_same p o so)) (subst P (sym (unit_of_set o w hs)) (here (owners_same p o so))))
    (λ n. subst P (sym (unit_of_other p o w hs n)) (there n))
    (which (same_owner p o))

all_of : (xs ys : List Change) → AllByRecursion IsChange xs → AllByRecursion IsChange ys → AllByRecursion IsChange (xs ++ ys)
all_of [] ys h k = k
all_of (x ∷ xs) ys h k = (h.0, all_of xs ys h.1 k)

module _ (adds : AddsClaims) (go_on : PlacesGoOn) where
  module _ (found : Owner → Bool) (b : Base) (o : Owner) (cs : List Claim) (a : Answer) (xs : List Change) (out : found o ≡ false) (safe : IsSafe found b)
      (free : clashes cs (others o b.units) ≡ false) (placed : ArePlaced xs (view b.store (unit_of o b.units))) (names : ClaimsNames xs cs) where
    abbrev u : Work
    u = unit_of o b.units

    abbrev w : Work
    w = kept u cs xs

    -- where the question creates a table, no other unit does
    others_none : (p : Owner) → same_owner p o ≡ false → creates_none xs ≡ false → creates_none (unit_of p b.units).changes ≡ true
    others_none p ne some =
        ⊎_elim
        (λ none. none)
        (λ creates. both (clash names_claim names_claim) refl
        (all_apart cs (others o b.units) free names_claim names_claim (names some) (others_has p o b.units names_claim ne (names_in adds (unit_of p b.units).changes (unit_of p b.units).claims (safe.each p).claimed creates))))
        (which (creates_none (unit_of p b.units).changes))

    -- and where another unit does, the question does not
    none_here : (p : Owner) → same_owner p o ≡ false → creates_none (unit_of p b.units).changes ≡ false → creates_none xs ≡ true
    none_here p ne some = ⊎_elim (λ none. none) (λ creates. both (creates_none (unit_of p b.units).changes) (others_none p ne creates) some) (which (creates_none xs))

    asker_unit : IsUnit w
    asker_unit = record {
      good = all_of u.changes xs (safe.each o).good placed.good;
      once = once_all u.claims cs (safe.each o).once;
      claimed = claimed_if (u.changes ++ xs) (all_added u.claims cs) (names_more adds u.changes xs u.claims cs (names_in adds u.changes u.claims (safe.each o).claimed) names);
    }

    first_alone : (p : Owner) → same_owner p o ≡ false → creates_none w.changes ≡ false → creates_none (unit_of p b.units).changes ≡ true
    first_alone p ne h = either_creates u.changes xs h (λ old. safe.alone o p (turned p o ne) out old) (λ new. others_none p ne new)

    pub done_safe : IsSafe found (happens_asked b o (Done a w))
    done_safe = record {
      store = safe.store;
      each = λ p. set o w b.units IsUnit p (λ e. asker_unit) (λ n. safe.each p);
      places = λ p h. set o w b.units (λ (v : Work). have_places v.changes b.store ≡ true) p
          (λ e. go_on u.changes xs b.store ∙ both_true (have_places u.changes b.store) (have_places xs (view b.store u)) (safe.places o out) placed.places)
          (λ n. safe.places p h);
      alone = λ q p ne h. set o w b.units (λ (v : Work). creates_none v.changes ≡ false → creates_none (unit_of p (set_unit o w b.units)).changes ≡ true) q
          (λ e some.
          let other : same_owner p o ≡ false = turned o p (subst (λ (n : Owner). same_owner n p ≡ false) e ne) in
          subst (λ (v : Work). creates_none v.changes ≡ true) (sym (unit_of_other p o w b.units other)) (first_alone p other some))
          (λ n some. set o w b.units (λ (v : Work). creates_none v.changes ≡ true) p
          (λ e. none_created u.changes xs (safe.alone q o n h some) (none_here q n some))
          (λ m. safe.alone q p ne h some));
    }

  module _ (keep : StoresAreKept) (placed : ChangesHavePlaces) (names : CreationsClaimNames) where
    pub ask_safe : (found : Owner → Bool) (b : Base) (o : Owner) (q : Question) → found o ≡ false → IsSafe found b → IsSafe found (bare b (Ask o q))
    ask_safe found b o q out safe =
        let u = unit_of o b.units in let v = view b.store u in
        let cs = claims_of q v in let a = answer_to q (left_of u) v in let xs = changes_by q (left_of u) v in
        let good : is_store v ≡ true = stores_kept keep u.changes b.store (safe.each o).good safe.store in
        through (others o b.units) u cs a xs (IsSafe found) b o (unfit q) safe
        (λ free few. done_safe found b o cs a xs out safe free (placed q (left_of u) v good) (names q (left_of u) v good))
