-- Numbers of units, and lists of claims that change at one number.
use Rattle.std.proofs.Common.{◌≡◌, ◌≢◌, ⊎_elim, ℕ, zero, suc, Bool, true, false, ◌==◌, ◌||◌, List, [], ◌∷◌, get_or, set, refl, sym, ◌∙◌, ap, subst, eq-eqb}
use Rattle.std.specs.Prelude.{if◌then◌else◌}
use Rattle.std.specs.List.{insert, remove}
use Rattle.std.proofs.lemmas.Bool.{eqb-true}
use Rattle.unit_locks.specs.Claim.{Claim}
use Rattle.unit_locks.specs.Claims.{claims_of}
use Rattle.core_model.specs.Units.{Held, Owner, comes_before, with_unit, without}
use Rattle.core_model.specs.Laws.{AreListed, ComesFirst}
use Rattle.core_model.proofs.Owners.{both, which}
use Rattle.unit_table.specs.declared.entry.Entry.{Entry}
use Rattle.unit_table.specs.Owner.{plain_owner}
use Rattle.unit_table.specs.Table.{AreNumbered, IsAt, IsGapFor, held, held_by, is_given}
use Rattle.unit_table.proofs.Rows.{first_is, over_with, over_without, with_first, without_first}

-- ---- tests

pub same_number : (m n : ℕ) → (m == n) ≡ true → m ≡ n
same_number m n h = eqb-true m n h

pub other_number : (m n : ℕ) → (m == n) ≡ false → m ≢ n
other_number m n h e = both (m == n) (eq-eqb m n e) h

-- neither the first nor one behind it
pub not_here : (b c : Bool) → (b || c) ≡ false → b ≡ false
not_here true c h = h
not_here false c h = refl

pub not_behind : (b c : Bool) → (b || c) ≡ false → c ≡ false
not_behind true c h = both true refl h
not_behind false c h = h

pub neither : (b c : Bool) → b ≡ false → c ≡ false → (b || c) ≡ false
neither b c h k = ap (λ x. x || c) h ∙ k

-- ---- claims that change at one number

abbrev pub SameBut : ℕ → List (List Claim) → List (List Claim) → Type 0
SameBut n old new = (other : ℕ) → other ≢ n → claims_of new other ≡ claims_of old other

same_by : (e : Entry) (old new : List (List Claim)) → claims_of new e.number ≡ claims_of old e.number → held_by new e ≡ held_by old e
same_by e old new h = ap (λ (cs : List Claim). let x : Held = record { owner = plain_owner e.owner; work = record { changes = e.changes; claims = cs } } in x) h

pub held_same : (n : ℕ) (old new : List (List Claim)) (es : List Entry) → SameBut n old new → is_given n es ≡ false → held new es ≡ held old es
held_same n old new [] same h = refl
held_same n old new (e ∷ es) same h =
    let here : held_by new e ≡ held_by old e = same_by e old new (same e.number (other_number e.number n (not_here (e.number == n) (is_given n es) h))) in
    let rest : held new es ≡ held old es = held_same n old new es same (not_behind (e.number == n) (is_given n es) h) in
    λ i. here i ∷ rest i

-- none of them has changed
pub held_as : (n : ℕ) (old new : List (List Claim)) (es : List Entry) → SameBut n old new → claims_of new n ≡ claims_of old n → held new es ≡ held old es
held_as n old new [] same h = refl
held_as n old new (e ∷ es) same h =
    let claims : claims_of new e.number ≡ claims_of old e.number =
    ⊎_elim
    (λ so. subst (λ (m : ℕ). claims_of new m ≡ claims_of old m) (sym (same_number e.number n so)) h)
    (λ ne. same e.number (other_number e.number n ne))
    (which (e.number == n)) in
    let here : held_by new e ≡ held_by old e = same_by e old new claims in
    let rest : held new es ≡ held old es = held_as n old new es same h in
    λ i. here i ∷ rest i

-- ---- numbers after an edit

pub given_at : (o : Owner) (es : List Entry) (i : ℕ) (d : Entry) → IsAt o es i → is_given (get_or es i d).number es ≡ true
given_at o [] i d at = absurd at
given_at o (e ∷ es) zero d at = ap (λ b. b || is_given e.number es) (eq-eqb e.number e.number refl)
given_at o (e ∷ es) (suc i) d at =
    let n = (get_or es i d).number in
    ap (λ b. (e.number == n) || b) (given_at o es i d at.2) ∙ or_true (e.number == n)
  where
    or_true : (b : Bool) → (b || true) ≡ true
    or_true true = refl
    or_true false = refl

-- who has another number than one that is given
pub other_than : (m n : ℕ) (es : List Entry) → is_given m es ≡ false → is_given n es ≡ true → m ≢ n
other_than m n es h k e = both (is_given n es) k (subst (λ (x : ℕ). is_given x es ≡ false) e h)

pub not_equal : (m n : ℕ) → m ≢ n → (m == n) ≡ false
not_equal m n ne = ⊎_elim (λ so. absurd (ne (eqb-true m n so))) (λ f. f) (which (m == n))

pub still_free : (o : Owner) (n : ℕ) (es : List Entry) (i : ℕ) → IsAt o es i → is_given n es ≡ false → is_given n (remove es i) ≡ false
still_free o n [] i at h = absurd at
still_free o n (e ∷ es) zero at h = not_behind (e.number == n) (is_given n es) h
still_free o n (e ∷ es) (suc i) at h =
    neither (e.number == n) (is_given n (remove es i)) (not_here (e.number == n) (is_given n es) h) (still_free o n es i at.2 (not_behind (e.number == n) (is_given n es) h))

pub freed : (o : Owner) (es : List Entry) (i : ℕ) (d : Entry) → AreNumbered es → IsAt o es i → is_given (get_or es i d).number (remove es i) ≡ false
freed o [] i d numbered at = absurd at
freed o (e ∷ es) zero d numbered at = numbered.0
freed o (e ∷ es) (suc i) d numbered at =
    let n = (get_or es i d).number in
    let ne : e.number ≢ n = other_than e.number n es numbered.0 (given_at o es i d at.2) in
    neither (e.number == n) (is_given n (remove es i)) (not_equal e.number n ne) (freed o es i d numbered.1 at.2)

-- a number that was given and is free now is that of the one that was removed
pub free_before : (o : Owner) (n : ℕ) (es : List Entry) (i : ℕ) (d : Entry) → IsAt o es i → n ≢ (get_or es i d).number → is_given n (remove es i) ≡ false → is_given n es ≡ false
free_before o n [] i d at ne h = absurd at
free_before o n (e ∷ es) zero d at ne h = neither (e.number == n) (is_given n es) (not_equal e.number n (λ q. ne (sym q))) h
free_before o n (e ∷ es) (suc i) d at ne h =
    neither (e.number == n) (is_given n es) (not_here (e.number == n) (is_given n (remove es i)) h) (free_before o n es i d at.2 ne (not_behind (e.number == n) (is_given n (remove es i)) h))

pub numbered_removed : (o : Owner) (es : List Entry) (i : ℕ) → AreNumbered es → IsAt o es i → AreNumbered (remove es i)
numbered_removed o [] i numbered at = absurd at
numbered_removed o (e ∷ es) zero numbered at = numbered.1
numbered_removed o (e ∷ es) (suc i) numbered at = (still_free o e.number es i at.2 numbered.0, numbered_removed o es i numbered.1 at.2)

-- with one unit more
pub free_inserted : (n : ℕ) (new : Entry) (o : Owner) (es : List Entry) (i : ℕ) → IsGapFor o es i → is_given n (insert es i new) ≡ ((new.number == n) || is_given n es)
free_inserted n new o [] zero at = refl
free_inserted n new o [] (suc i) at = absurd at
free_inserted n new o (e ∷ es) zero at = refl
free_inserted n new o (e ∷ es) (suc i) at = ap (λ b. (e.number == n) || b) (free_inserted n new o es i at.2) ∙ swapped (e.number == n) (new.number == n) (is_given n es)
  where
    swapped : (a b c : Bool) → (a || (b || c)) ≡ (b || (a || c))
    swapped true true c = refl
    swapped true false c = refl
    swapped false true c = refl
    swapped false false c = refl

turned : (m n : ℕ) → (m == n) ≡ false → (n == m) ≡ false
turned m n h = not_equal n m (λ e. other_number m n h (sym e))

pub numbered_inserted : (new : Entry) (o : Owner) (es : List Entry) (i : ℕ) → is_given new.number es ≡ false → AreNumbered es → IsGapFor o es i → AreNumbered (insert es i new)
numbered_inserted new o [] zero free numbered at = (refl, tt)
numbered_inserted new o [] (suc i) free numbered at = absurd at
numbered_inserted new o (e ∷ es) zero free numbered at = (free, numbered)
numbered_inserted new o (e ∷ es) (suc i) free numbered at = (
  free_inserted e.number new o es i at.2 ∙ neither (new.number == e.number) (is_given e.number es) (turned e.number new.number (not_here (e.number == new.number) (is_given new.number es) free)) numbered.0,
  numbered_inserted new o es i (not_behind (e.number == new.number) (is_given new.number es) free) numbered.1 at.2,
)

-- with another unit of the same number
pub given_set : (n : ℕ) (new : Entry) (o : Owner) (es : List Entry) (i : ℕ) (d : Entry) → new.number ≡ (get_or es i d).number → IsAt o es i → is_given n (set es i new) ≡ is_given n es
given_set n new o [] i d is at = absurd at
given_set n new o (e ∷ es) zero d is at = ap (λ m. (m == n) || is_given n es) is
given_set n new o (e ∷ es) (suc i) d is at = ap (λ b. (e.number == n) || b) (given_set n new o es i d is at.2)

pub numbered_set : (new : Entry) (o : Owner) (es : List Entry) (i : ℕ) (d : Entry) → new.number ≡ (get_or es i d).number → AreNumbered es → IsAt o es i → AreNumbered (set es i new)
numbered_set new o [] i d is numbered at = absurd at
numbered_set new o (e ∷ es) zero d is numbered at = (subst (λ (m : ℕ). is_given m es ≡ false) (sym is) numbered.0, numbered.1)
numbered_set new o (e ∷ es) (suc i) d is numbered at = (given_set e.number new o es i d is at.2 ∙ numbered.0, numbered_set new o es i d is numbered.1 at.2)

-- ---- the list where the claims of one unit change with it

pub units_set : (new : Entry) (o : Owner) (es : List Entry) (i : ℕ) (d : Entry) (old now : List (List Claim)) → new.number ≡ (get_or es i d).number → plain_owner new.owner ≡ o
    → SameBut new.number old now → AreListed (held old es) → AreNumbered es → IsAt o es i
    → held now (set es i new) ≡ with_unit (held_by now new) (without o (held old es))
units_set new o [] i d old now is owner same listed numbered at = absurd at
units_set new o (e ∷ es) zero d old now is owner same listed numbered at =
    let rest : held now es ≡ held old es = held_same new.number old now es same (subst (λ (m : ℕ). is_given m es ≡ false) (sym is) numbered.0) in
    let first : ComesFirst o (held old es) = first_is o (plain_owner e.owner) (held old es) at listed.1 in
    let gone : without o (held old (e ∷ es)) ≡ held old es = ap (λ b. if b then without o (held old es) else held_by old e ∷ without o (held old es)) at ∙ without_first o (held old es) first in
    ap (λ (l : List Held). held_by now new ∷ l) rest
    ∙ sym (with_first (held_by now new) (held old es) (subst (λ (p : Owner). ComesFirst p (held old es)) (sym owner) first))
    ∙ ap (λ (l : List Held). with_unit (held_by now new) l) (sym gone)
units_set new o (e ∷ es) (suc i) d old now is owner same listed numbered at =
    let n = (get_or es i d).number in
    let ne : e.number ≢ n = other_than e.number n es numbered.0 (given_at o es i d at.2) in
    let here : held_by now e ≡ held_by old e = same_by e old now (same e.number (λ q. ne (q ∙ is))) in
    let later : comes_before (plain_owner new.owner) (plain_owner e.owner) ≡ false = subst (λ (p : Owner). comes_before p (plain_owner e.owner) ≡ false) (sym owner) at.1 in
    ap (λ (h : Held). h ∷ held now (set es i new)) here
    ∙ ap (λ (l : List Held). held_by old e ∷ l) (units_set new o es i d old now is owner same listed.2 numbered.1 at.2)
    ∙ sym (over_with (held_by now new) (held_by old e) (without o (held old es)) later)
    ∙ ap (λ (l : List Held). with_unit (held_by now new) l) (sym (over_without o (held_by old e) (held old es) at.0))
