-- What a search finds among branches that rise, and what an edit there does.
use Rattle.std.proofs.Common.{◌≡◌, ℕ, zero, suc, ◌+◌, ◌<◌, ◌≤◌, true, false, List, [], ◌∷◌, length, get_or, set, Option, Some, None, refl, sym, ◌∙◌, ap, subst, inl, inr, arith}
use Rattle.std.specs.List.{insert, remove}
use Rattle.std.specs.Ordering.{nat_cmp, is_lt}
use Rattle.std.specs.declared.cmp.Ordering.{Ordering}
use Rattle.std.specs.declared.cmp.Ordering.TheVariants.{Less, Equal, Greater}
use Rattle.std.specs.Cmp.Lexicographic.{slice_cmp}
use Rattle.std.specs.Str.{bytes_eq}
use Rattle.std.proofs.lemmas.Bool.{cases_lt}
use Rattle.std.proofs.lemmas.List.{get_or_default}
use Rattle.std.proofs.lemmas.Map.Lookups.{exact_bytes}
use Rattle.drda_words.specs.Order.{precedes, IsRising}
use Rattle.drda_words.proofs.Precedes.{precedes-trans, precedes_one_way, precedes_other, precedes_from_Greater, bytes_eq-refl}
use Rattle.xa_manager.specs.declared.branch.Branch.{Branch}
use Rattle.xa_manager.specs.declared.branch.BranchState.{BranchState}
use Rattle.xa_manager.specs.Branch.{state_of, with_branch, with_state, without}
use Rattle.xa_manager.specs.Place.{no_branch, xid_at, IsAt, IsGapFor}
use Rattle.xa_manager.proofs.Rising.{Above, Rises, rises, with_state_above, without_above, state_of_above}

above_at : (x : List ℕ) (bs : List Branch) → Above x bs → (i : ℕ) → i < length bs → precedes x (xid_at bs i) ≡ true
above_at x [] h i lt = absurd (omega arith)
above_at x (b ∷ bs) h zero lt = h.0
above_at x (b ∷ bs) h (suc i) lt = above_at x bs h.1 i (omega arith)

in_order : (bs : List Branch) → Rises bs → (i j : ℕ) → i < j → j < length bs → precedes (xid_at bs i) (xid_at bs j) ≡ true
in_order [] h i j lt in_range = absurd (omega arith)
in_order (b ∷ bs) h i zero lt in_range = absurd (omega arith)
in_order (b ∷ bs) h zero (suc j) lt in_range = above_at b.xid bs h.0 j (omega arith)
in_order (b ∷ bs) h (suc i) (suc j) lt in_range = in_order bs h.1 i j (omega arith) (omega arith)

-- ---- the search: what is left is from low to high

pub record IsLeft (bs : List Branch) (x : List ℕ) (low high : ℕ) : Type 0 where
  pub ordered : low ≤ high
  pub in_range : high ≤ length bs
  pub smaller_before : (j : ℕ) → j < low → precedes (xid_at bs j) x ≡ true
  pub greater_after : (j : ℕ) → high ≤ j → j < length bs → precedes x (xid_at bs j) ≡ true

pub all_left : (bs : List Branch) (x : List ℕ) → IsLeft bs x 0 (length bs)
all_left bs x = record {
  ordered = omega arith;
  in_range = omega arith;
  smaller_before = λ j lt. absurd (omega arith);
  greater_after = λ j le lt. absurd (omega arith);
}

module _ (bs : List Branch) (up : IsRising (λ b. b.xid) bs) (x : List ℕ) (low high middle : ℕ) (left : IsLeft bs x low high) (inside : low ≤ middle) (below : middle < high) where
  -- the one in the middle is smaller, and so are those before it
  pub left_above : slice_cmp nat_cmp (xid_at bs middle) x ≡ Less → IsLeft bs x (middle + 1) high
  left_above less = record {
    ordered = omega arith;
    in_range = left.in_range;
    smaller_before = λ j lt. elim (cases_lt j middle) [
      | inl before ↦ precedes-trans (xid_at bs j) (xid_at bs middle) x (in_order bs (rises bs up) j middle before (omega (arith, left.in_range))) smaller
      | inr not_before ↦ let same : j ≡ middle = omega arith in rw same smaller
    ];
    greater_after = left.greater_after;
  }
    where
      smaller : precedes (xid_at bs middle) x ≡ true
      smaller = ap (λ (o : Ordering). is_lt o) less

  pub left_below : slice_cmp nat_cmp (xid_at bs middle) x ≡ Greater → IsLeft bs x low middle
  left_below greater = record {
    ordered = inside;
    in_range = omega (arith, left.in_range);
    smaller_before = left.smaller_before;
    greater_after = λ j le lt. elim (cases_lt middle j) [
      | inl after ↦ precedes-trans x (xid_at bs middle) (xid_at bs j) greater_one (in_order bs (rises bs up) middle j after lt)
      | inr not_after ↦ let same : j ≡ middle = omega arith in rw same greater_one
    ];
  }
    where
      greater_one : precedes x (xid_at bs middle) ≡ true
      greater_one = precedes_from_Greater (xid_at bs middle) x greater

  pub found : slice_cmp nat_cmp (xid_at bs middle) x ≡ Equal → IsAt bs x middle
  found equal = record { in_range = omega (arith, left.in_range); has_xid = exact_bytes (xid_at bs middle) x equal }

pub none_left : (bs : List Branch) (x : List ℕ) (low high : ℕ) → IsLeft bs x low high → high ≤ low → IsGapFor bs x low
none_left bs x low high left le = record {
  in_range = omega (arith, left.ordered, left.in_range);
  smaller_before = left.smaller_before;
  greater_after = λ j from lt. left.greater_after j (omega arith) lt;
}

-- ---- at the place of a branch

at_tail : (b : Branch) (bs : List Branch) (x : List ℕ) (i : ℕ) → IsAt (b ∷ bs) x (suc i) → IsAt bs x i
at_tail b bs x i h = record { in_range = omega (arith, h.in_range); has_xid = h.has_xid }

first_is_other : (b : Branch) (bs : List Branch) (x : List ℕ) (i : ℕ) → Above b.xid bs → IsAt bs x i → bytes_eq b.xid x ≡ false
first_is_other b bs x i h at = precedes_other b.xid x (subst (λ (y : List ℕ). precedes b.xid y ≡ true) at.has_xid (above_at b.xid bs h i at.in_range))

-- the first has the XID, and is seen as such
first_is_it : (b : Branch) (x : List ℕ) → b.xid ≡ x → bytes_eq b.xid x ≡ true
first_is_it b x e = subst (λ (y : List ℕ). bytes_eq b.xid y ≡ true) e (bytes_eq-refl b.xid)

pub state_at : (bs : List Branch) → Rises bs → (x : List ℕ) (i : ℕ) → IsAt bs x i → state_of bs x ≡ Some (get_or bs i no_branch).state
state_at [] h x i at = absurd (omega (arith, at.in_range))
state_at (b ∷ bs) h x zero at = rw (first_is_it b x at.has_xid) refl
state_at (b ∷ bs) h x (suc i) at = rw (first_is_other b bs x i h.0 (at_tail b bs x i at)) (state_at bs h.1 x i (at_tail b bs x i at))

-- the branch that is read there
pub known_at : (bs : List Branch) → IsRising (λ b. b.xid) bs → (x : List ℕ) (i : ℕ) (b : Branch) → IsAt bs x i → b ≡ get_or bs i b → state_of bs x ≡ Some b.state
known_at bs up x i b at is =
    let it : b ≡ get_or bs i no_branch = is ∙ get_or_default bs i b no_branch at.in_range in
    state_at bs (rises bs up) x i at ∙ sym (ap (λ (d : Branch). let s : Option BranchState = Some d.state in s) it)

pub set_at : (bs : List Branch) → Rises bs → (x : List ℕ) (i : ℕ) (s : BranchState) → IsAt bs x i → set bs i (record { xid = x; state = s }) ≡ with_state bs x s
set_at [] h x i s at = absurd (omega (arith, at.in_range))
set_at (b ∷ bs) h x zero s at =
    let behind : Above x bs = subst (λ (y : List ℕ). Above y bs) at.has_xid h.0 in
    let e : b.xid ≡ x = at.has_xid in
    rw (first_is_it b x at.has_xid, with_state_above bs x s behind, e) refl
set_at (b ∷ bs) h x (suc i) s at =
    rw (first_is_other b bs x i h.0 (at_tail b bs x i at)) (ap (λ (l : List Branch). b ∷ l) (set_at bs h.1 x i s (at_tail b bs x i at)))

pub remove_at : (bs : List Branch) → Rises bs → (x : List ℕ) (i : ℕ) → IsAt bs x i → remove bs i ≡ without bs x
remove_at [] h x i at = absurd (omega (arith, at.in_range))
remove_at (b ∷ bs) h x zero at =
    let behind : Above x bs = subst (λ (y : List ℕ). Above y bs) at.has_xid h.0 in
    rw (first_is_it b x at.has_xid, without_above bs x behind) refl
remove_at (b ∷ bs) h x (suc i) at =
    rw (first_is_other b bs x i h.0 (at_tail b bs x i at)) (ap (λ (l : List Branch). b ∷ l) (remove_at bs h.1 x i (at_tail b bs x i at)))

-- ---- at the gap for a branch

gap_tail : (b : Branch) (bs : List Branch) (x : List ℕ) (i : ℕ) → IsGapFor (b ∷ bs) x (suc i) → IsGapFor bs x i
gap_tail b bs x i h = record {
  in_range = omega (arith, h.in_range);
  smaller_before = λ j lt. h.smaller_before (suc j) (omega arith);
  greater_after = λ j le lt. h.greater_after (suc j) (omega arith) (omega arith);
}

-- all is behind a gap at the front
gap_front : (bs : List Branch) (x : List ℕ) → IsGapFor bs x 0 → Above x bs
gap_front [] x h = tt
gap_front (b ∷ bs) x h = (
  h.greater_after 0 (omega arith) (omega arith),
  gap_front bs x (record {
    in_range = omega arith;
    smaller_before = λ j lt. absurd (omega arith);
    greater_after = λ j le lt. h.greater_after (suc j) (omega arith) (omega arith);
  }),
)

pub state_in_gap : (bs : List Branch) (x : List ℕ) (i : ℕ) → IsGapFor bs x i → state_of bs x ≡ None
state_in_gap [] x i h = refl
state_in_gap (b ∷ bs) x zero h = state_of_above (b ∷ bs) x (gap_front (b ∷ bs) x h)
state_in_gap (b ∷ bs) x (suc i) h = rw (precedes_other b.xid x (h.smaller_before 0 (omega arith))) (state_in_gap bs x i (gap_tail b bs x i h))

pub with_state_in_gap : (bs : List Branch) (x : List ℕ) (i : ℕ) (s : BranchState) → IsGapFor bs x i → with_state bs x s ≡ bs
with_state_in_gap [] x i s h = refl
with_state_in_gap (b ∷ bs) x zero s h = with_state_above (b ∷ bs) x s (gap_front (b ∷ bs) x h)
with_state_in_gap (b ∷ bs) x (suc i) s h =
    rw (precedes_other b.xid x (h.smaller_before 0 (omega arith))) (ap (λ (l : List Branch). b ∷ l) (with_state_in_gap bs x i s (gap_tail b bs x i h)))

pub without_in_gap : (bs : List Branch) (x : List ℕ) (i : ℕ) → IsGapFor bs x i → without bs x ≡ bs
without_in_gap [] x i h = refl
without_in_gap (b ∷ bs) x zero h = without_above (b ∷ bs) x (gap_front (b ∷ bs) x h)
without_in_gap (b ∷ bs) x (suc i) h =
    rw (precedes_other b.xid x (h.smaller_before 0 (omega arith))) (ap (λ (l : List Branch). b ∷ l) (without_in_gap bs x i (gap_tail b bs x i h)))

pub insert_in_gap : (bs : List Branch) (new : Branch) (i : ℕ) → IsGapFor bs new.xid i → insert bs i new ≡ with_branch bs new
insert_in_gap [] new zero h = refl
insert_in_gap [] new (suc i) h = absurd (omega (arith, h.in_range))
insert_in_gap (b ∷ bs) new zero h = rw (h.greater_after 0 (omega arith) (omega arith)) refl
insert_in_gap (b ∷ bs) new (suc i) h =
    rw (precedes_one_way b.xid new.xid (h.smaller_before 0 (omega arith))) (ap (λ (l : List Branch). b ∷ l) (insert_in_gap bs new i (gap_tail b bs new.xid i h)))
