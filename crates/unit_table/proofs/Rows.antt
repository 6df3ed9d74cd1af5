-- The list of units where one is found, put, set or taken out at a place.
use Rattle.std.proofs.Common.{◌≡◌, ◌<◌, ◌≤◌, ℕ, zero, suc, true, false, List, [], ◌∷◌, length, get_or, refl, sym, ◌∙◌, ap, subst, arith}
use Rattle.std.specs.Prelude.{if◌then◌else◌}
use Rattle.std.specs.List.{insert, remove}
use Rattle.unit_locks.specs.Claim.{Claim}
use Rattle.core_model.specs.Units.{Held, Owner, comes_before, idle, same_owner, unit_of, with_unit, without}
use Rattle.core_model.specs.Laws.{AreListed, ComesFirst}
use Rattle.core_model.proofs.Owners.{owners_same}
use Rattle.core_model.proofs.Listing.{first_through, none_of_first, not_first}
use Rattle.unit_table.specs.declared.entry.Entry.{Entry}
use Rattle.unit_table.specs.Owner.{plain_owner}
use Rattle.unit_table.specs.Table.{IsAt, IsGapFor, held, held_by}

-- ---- who comes first

pub without_first : (o : Owner) (hs : List Held) → ComesFirst o hs → without o hs ≡ hs
without_first o [] first = refl
without_first o (h ∷ hs) first =
    ap (λ b. if b then without o hs else h ∷ without o hs) (not_first o h.owner first.0) ∙ ap (λ (l : List Held). h ∷ l) (without_first o hs first.1)

pub with_first : (new : Held) (hs : List Held) → ComesFirst new.owner hs → with_unit new hs ≡ new ∷ hs
with_first new [] first = refl
with_first new (h ∷ hs) first = ap (λ b. if b then new ∷ h ∷ hs else h ∷ with_unit new hs) first.0

-- whoever is the first of a list comes before those behind
pub first_is : (o p : Owner) (hs : List Held) → same_owner o p ≡ true → ComesFirst p hs → ComesFirst o hs
first_is o p hs so first = subst (λ (q : Owner). ComesFirst q hs) (sym (owners_same o p so)) first

-- one step over a unit of another owner
pub over_without : (o : Owner) (h : Held) (hs : List Held) → same_owner o h.owner ≡ false → without o (h ∷ hs) ≡ h ∷ without o hs
over_without o h hs ne = ap (λ b. if b then without o hs else h ∷ without o hs) ne

pub over_with : (new h : Held) (hs : List Held) → comes_before new.owner h.owner ≡ false → with_unit new (h ∷ hs) ≡ h ∷ with_unit new hs
over_with new h hs n = ap (λ b. if b then new ∷ h ∷ hs else h ∷ with_unit new hs) n

over_unit : (o : Owner) (h : Held) (hs : List Held) → same_owner o h.owner ≡ false → unit_of o (h ∷ hs) ≡ unit_of o hs
over_unit o h hs ne = ap (λ b. if b then h.work else unit_of o hs) ne

-- ---- at the place of a unit

module _ (claims : List (List Claim)) (o : Owner) where
  pub at_inside : (es : List Entry) (i : ℕ) → IsAt o es i → i < length es
  at_inside [] i at = absurd at
  at_inside (e ∷ es) zero at = omega arith
  at_inside (e ∷ es) (suc i) at = let below = at_inside es i at.2 in omega (arith, below)

  pub gap_inside : (es : List Entry) (i : ℕ) → IsGapFor o es i → i ≤ length es
  gap_inside [] zero at = omega arith
  gap_inside [] (suc i) at = absurd at
  gap_inside (e ∷ es) zero at = omega arith
  gap_inside (e ∷ es) (suc i) at = let below = gap_inside es i at.2 in omega (arith, below)

  pub unit_at : (es : List Entry) (i : ℕ) (d : Entry) → IsAt o es i → unit_of o (held claims es) ≡ (held_by claims (get_or es i d)).work
  unit_at [] i d at = absurd at
  unit_at (e ∷ es) zero d at = ap (λ b. if b then (held_by claims e).work else unit_of o (held claims es)) at
  unit_at (e ∷ es) (suc i) d at = over_unit o (held_by claims e) (held claims es) at.0 ∙ unit_at es i d at.2

  pub owner_at : (es : List Entry) (i : ℕ) (d : Entry) → IsAt o es i → o ≡ plain_owner (get_or es i d).owner
  owner_at [] i d at = absurd at
  owner_at (e ∷ es) zero d at = owners_same o (plain_owner e.owner) at
  owner_at (e ∷ es) (suc i) d at = owner_at es i d at.2

  pub removed : (es : List Entry) (i : ℕ) → AreListed (held claims es) → IsAt o es i → held claims (remove es i) ≡ without o (held claims es)
  removed [] i listed at = absurd at
  removed (e ∷ es) zero listed at =
      let first = first_is o (plain_owner e.owner) (held claims es) at listed.1 in
      sym (ap (λ b. if b then without o (held claims es) else held_by claims e ∷ without o (held claims es)) at ∙ without_first o (held claims es) first)
  removed (e ∷ es) (suc i) listed at =
      ap (λ (l : List Held). held_by claims e ∷ l) (removed es i listed.2 at.2) ∙ sym (over_without o (held_by claims e) (held claims es) at.0)

  -- ---- at the gap

  pub gap_first : (es : List Entry) → AreListed (held claims es) → IsGapFor o es 0 → ComesFirst o (held claims es)
  gap_first [] listed at = tt
  gap_first (e ∷ es) listed at = (at.1, first_through o (plain_owner e.owner) (held claims es) at.1 listed.1)

  pub gap_idle : (es : List Entry) (i : ℕ) → AreListed (held claims es) → IsGapFor o es i → unit_of o (held claims es) ≡ idle
  gap_idle [] i listed at = refl
  gap_idle (e ∷ es) zero listed at = none_of_first o (held claims (e ∷ es)) (gap_first (e ∷ es) listed at)
  gap_idle (e ∷ es) (suc i) listed at = over_unit o (held_by claims e) (held claims es) at.0 ∙ gap_idle es i listed.2 at.2

  pub gap_lacks : (es : List Entry) (i : ℕ) → AreListed (held claims es) → IsGapFor o es i → without o (held claims es) ≡ held claims es
  gap_lacks [] i listed at = refl
  gap_lacks (e ∷ es) zero listed at = without_first o (held claims (e ∷ es)) (gap_first (e ∷ es) listed at)
  gap_lacks (e ∷ es) (suc i) listed at =
      over_without o (held_by claims e) (held claims es) at.0 ∙ ap (λ (l : List Held). held_by claims e ∷ l) (gap_lacks es i listed.2 at.2)

  pub inserted : (new : Entry) (es : List Entry) (i : ℕ) → plain_owner new.owner ≡ o → AreListed (held claims es) → IsGapFor o es i
      → held claims (insert es i new) ≡ with_unit (held_by claims new) (held claims es)
  inserted new [] zero is listed at = refl
  inserted new [] (suc i) is listed at = absurd at
  inserted new (e ∷ es) zero is listed at =
      sym (with_first (held_by claims new) (held claims (e ∷ es)) (subst (λ (p : Owner). ComesFirst p (held claims (e ∷ es))) (sym is) (gap_first (e ∷ es) listed at)))
  inserted new (e ∷ es) (suc i) is listed at =
      let n : comes_before (plain_owner new.owner) (plain_owner e.owner) ≡ false = subst (λ (p : Owner). comes_before p (plain_owner e.owner) ≡ false) (sym is) at.1 in
      ap (λ (l : List Held). held_by claims e ∷ l) (inserted new es i is listed.2 at.2) ∙ sym (over_with (held_by claims new) (held_by claims e) (held claims es) n)
