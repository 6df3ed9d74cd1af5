-- Branches that come into doubt, move there and are decided.
use Rattle.std.proofs.Common.{◌≡◌, ⊎_elim, ℕ, Bool, true, false, not, List, [], ◌∷◌, Option, Some, None, refl, sym, ◌∙◌, ap, subst, Ordering, Greater}
use Rattle.std.specs.Prelude.{bytes_eq, if◌then◌else◌}
use Rattle.std.specs.Ordering.{match_ordering, nat_cmp, ordering_reverse}
use Rattle.std.specs.Cmp.Lexicographic.{slice_cmp}
use Rattle.drda_words.specs.Order.{precedes}
use Rattle.drda_words.proofs.Precedes.{bytes_eq-refl, cmp_turned, precedes-Less, precedes_other, same_bytes}
use Rattle.xa_manager.specs.declared.branch.Branch.{Branch}
use Rattle.xa_manager.specs.declared.branch.BranchState.{BranchState}
use Rattle.xa_manager.specs.Branch.{is_in_doubt, state_of, with_state, without}
use Rattle.xa_manager.proofs.Rising.{Above, Rises, with_state_above, without_above}
use Rattle.core_model.proofs.Owners.{both, which}
use Rattle.recovery.specs.Durable.{Doubt, Doubts, doubt_of, turned, with_doubt, without_doubt}
use Rattle.recovery.proofs.Doubts.{first_state, pairs, pairs_agree, pairs_in, pairs_out, state_rest}

-- an XID comes before each branch that is known behind it
above_known : (bs : List Branch) (y x : List ℕ) (s : BranchState) → Above y bs → state_of bs x ≡ Some s → precedes y x ≡ true
above_known [] y x s above known = absurd cc
above_known (b ∷ bs) y x s above known =
    ⊎_elim
    (λ so. subst (λ (z : List ℕ). precedes y z ≡ true) (same_bytes b.xid x so) above.0)
    (λ n. above_known bs y x s above.1 (sym (state_rest b bs x n) ∙ known))
    (which (bytes_eq b.xid x))

pub eq_turned : (a b : List ℕ) → bytes_eq a b ≡ false → bytes_eq b a ≡ false
eq_turned a b ne = ⊎_elim (λ so. both (bytes_eq a b) (ap (bytes_eq a) (same_bytes b a so) ∙ bytes_eq-refl a) ne) (λ n. n) (which (bytes_eq b a))

-- what is known behind is another
apart_above : (bs : List Branch) (x y : List ℕ) (s : BranchState) → Above x bs → state_of bs y ≡ Some s → bytes_eq y x ≡ false
apart_above bs x y s above known = eq_turned x y (precedes_other x y (above_known bs x y s above known))

module _ (f : List ℕ → Doubt) where
  -- ---- a unit comes into doubt

  -- with a unit before the branches: before, instead of, or behind the first
  abbrev put_at : List ℕ → Doubt → Branch → List Branch → Ordering → Doubts
  put_at x w b bs o = match_ordering o ((x, w) ∷ (b.xid, f b.xid) ∷ pairs f bs) ((b.xid, w) ∷ pairs f bs) ((b.xid, f b.xid) ∷ with_doubt (pairs f bs) x w)

  put_first : (bs : List Branch) (x : List ℕ) (w : Doubt) → Above x bs → with_doubt (pairs f bs) x w ≡ (x, w) ∷ pairs f bs
  put_first [] x w above = refl
  put_first (b ∷ bs) x w above =
      ⊎_elim
      (λ so. ap (λ (l : Doubts). with_doubt l x w) (pairs_in f b bs so) ∙ ap (put_at x w b bs) (precedes-Less x b.xid above.0) ∙ ap (λ (l : Doubts). (x, w) ∷ l) (sym (pairs_in f b bs so)))
      (λ n. ap (λ (l : Doubts). with_doubt l x w) (pairs_out f b bs n) ∙ put_first bs x w above.1 ∙ ap (λ (l : Doubts). (x, w) ∷ l) (sym (pairs_out f b bs n)))
      (which (is_in_doubt b.state))

  pub pairs_entered : (bs : List Branch) (x : List ℕ) (s old : BranchState) → is_in_doubt s ≡ true → Rises bs → state_of bs x ≡ Some old → is_in_doubt old ≡ false → with_doubt (pairs f bs) x (f x) ≡ pairs f (with_state bs x s)
  pairs_entered [] x s old new rise known out = absurd cc
  pairs_entered (b ∷ bs) x s old new rise known out =
      let set_to : Branch = record { xid = b.xid; state = s } in
      let turned : Bool → Doubts = λ t. pairs f ((if t then set_to else b) ∷ with_state bs x s) in
      ⊎_elim
      (λ so.
      let at : b.xid ≡ x = same_bytes b.xid x so in
      let above : Above x bs = subst (λ (y : List ℕ). Above y bs) at rise.0 in
      ap (λ (l : Doubts). with_doubt l x (f x)) (pairs_out f b bs (first_state b bs x old so known ∙ out)) ∙ put_first bs x (f x) above
      ∙ ap (λ (y : List ℕ). (y, f y) ∷ pairs f bs) (sym at)
      ∙ ap (λ (l : List Branch). (b.xid, f b.xid) ∷ pairs f l) (sym (with_state_above bs x s above))
      ∙ sym (pairs_in f set_to (with_state bs x s) new) ∙ sym (ap turned so))
      (λ n.
      let tail : state_of bs x ≡ Some old = sym (state_rest b bs x n) ∙ known in
      let rest = pairs_entered bs x s old new rise.1 tail out in
      let later : slice_cmp nat_cmp x b.xid ≡ Greater = cmp_turned x b.xid ∙ ap (λ (o : Ordering). ordering_reverse o) (precedes-Less b.xid x (above_known bs b.xid x old rise.0 tail)) in
      ⊎_elim
      (λ doubt. ap (λ (l : Doubts). with_doubt l x (f x)) (pairs_in f b bs doubt) ∙ ap (put_at x (f x) b bs) later ∙ ap (λ (l : Doubts). (b.xid, f b.xid) ∷ l) rest ∙ sym (pairs_in f b (with_state bs x s) doubt) ∙ sym (ap turned n))
      (λ sure. ap (λ (l : Doubts). with_doubt l x (f x)) (pairs_out f b bs sure) ∙ rest ∙ sym (pairs_out f b (with_state bs x s) sure) ∙ sym (ap turned n))
      (which (is_in_doubt b.state)))
      (which (bytes_eq b.xid x))

  -- ---- a unit that is sought

  abbrev found_by : List ℕ → Branch → List Branch → Bool → Option Doubt
  found_by x b bs t = if t then Some (f b.xid) else doubt_of (pairs f bs) x

  sought_in : (b : Branch) (bs : List Branch) (x : List ℕ) → is_in_doubt b.state ≡ true → doubt_of (pairs f (b ∷ bs)) x ≡ found_by x b bs (bytes_eq x b.xid)
  sought_in b bs x so = ap (λ (l : Doubts). doubt_of l x) (pairs_in f b bs so)

  sought_out : (b : Branch) (bs : List Branch) (x : List ℕ) → is_in_doubt b.state ≡ false → doubt_of (pairs f (b ∷ bs)) x ≡ doubt_of (pairs f bs) x
  sought_out b bs x n = ap (λ (l : Doubts). doubt_of l x) (pairs_out f b bs n)

  -- not that of the first branch
  sought_rest : (b : Branch) (bs : List Branch) (x : List ℕ) → bytes_eq x b.xid ≡ false → doubt_of (pairs f (b ∷ bs)) x ≡ doubt_of (pairs f bs) x
  sought_rest b bs x ne = ⊎_elim (λ so. sought_in b bs x so ∙ ap (found_by x b bs) ne) (λ n. sought_out b bs x n) (which (is_in_doubt b.state))

  none_above : (bs : List Branch) (x : List ℕ) → Above x bs → doubt_of (pairs f bs) x ≡ None
  none_above [] x above = refl
  none_above (b ∷ bs) x above = sought_rest b bs x (precedes_other x b.xid above.0) ∙ none_above bs x above.1

  pub not_doubted : (bs : List Branch) (x : List ℕ) (old : BranchState) → Rises bs → state_of bs x ≡ Some old → is_in_doubt old ≡ false → doubt_of (pairs f bs) x ≡ None
  not_doubted [] x old rise known out = refl
  not_doubted (b ∷ bs) x old rise known out =
      ⊎_elim
      (λ so. sought_out b bs x (first_state b bs x old so known ∙ out) ∙ none_above bs x (subst (λ (y : List ℕ). Above y bs) (same_bytes b.xid x so) rise.0))
      (λ n. sought_rest b bs x (eq_turned b.xid x n) ∙ not_doubted bs x old rise.1 (sym (state_rest b bs x n) ∙ known) out)
      (which (bytes_eq b.xid x))

  pub doubted : (bs : List Branch) (x : List ℕ) (s : BranchState) → state_of bs x ≡ Some s → is_in_doubt s ≡ true → doubt_of (pairs f bs) x ≡ Some (f x)
  doubted [] x s known doubt = absurd cc
  doubted (b ∷ bs) x s known doubt =
      ⊎_elim
      (λ so.
      let at : b.xid ≡ x = same_bytes b.xid x so in
      sought_in b bs x (first_state b bs x s so known ∙ doubt) ∙ ap (found_by x b bs) (ap (bytes_eq x) at ∙ bytes_eq-refl x) ∙ ap (λ (y : List ℕ). let o : Option Doubt = Some (f y) in o) at)
      (λ n. sought_rest b bs x (eq_turned b.xid x n) ∙ doubted bs x s (sym (state_rest b bs x n) ∙ known) doubt)
      (which (bytes_eq b.xid x))

  -- ---- a unit is decided

  abbrev left_by : List ℕ → Branch → List Branch → Bool → Doubts
  left_by x b bs t = if t then pairs f bs else (b.xid, f b.xid) ∷ without_doubt (pairs f bs) x

  pub pairs_decided : (bs : List Branch) (x : List ℕ) (s : BranchState) → Rises bs → state_of bs x ≡ Some s → is_in_doubt s ≡ true → without_doubt (pairs f bs) x ≡ pairs f (without bs x)
  pairs_decided [] x s rise known doubt = refl
  pairs_decided (b ∷ bs) x s rise known doubt =
      let kept : Bool → Doubts = λ t. pairs f (if not t then b ∷ without bs x else without bs x) in
      ⊎_elim
      (λ so.
      let at : b.xid ≡ x = same_bytes b.xid x so in
      let above : Above x bs = subst (λ (y : List ℕ). Above y bs) at rise.0 in
      ap (λ (l : Doubts). without_doubt l x) (pairs_in f b bs (first_state b bs x s so known ∙ doubt)) ∙ ap (left_by x b bs) (ap (bytes_eq x) at ∙ bytes_eq-refl x)
      ∙ ap (pairs f) (sym (without_above bs x above)) ∙ sym (ap kept so))
      (λ n.
      let rest = pairs_decided bs x s rise.1 (sym (state_rest b bs x n) ∙ known) doubt in
      ⊎_elim
      (λ here. ap (λ (l : Doubts). without_doubt l x) (pairs_in f b bs here) ∙ ap (left_by x b bs) (eq_turned b.xid x n) ∙ ap (λ (l : Doubts). (b.xid, f b.xid) ∷ l) rest ∙ sym (pairs_in f b (without bs x) here) ∙ sym (ap kept n))
      (λ sure. ap (λ (l : Doubts). without_doubt l x) (pairs_out f b bs sure) ∙ rest ∙ sym (pairs_out f b (without bs x) sure) ∙ sym (ap kept n))
      (which (is_in_doubt b.state)))
      (which (bytes_eq b.xid x))

-- ---- a branch in doubt is given another unit, or another outcome

-- where all but the one agree
module _ (f g : List ℕ → Doubt) where
  abbrev turned_by : List ℕ → Branch → List Branch → Bool → Doubts
  turned_by x b bs t = if t then (b.xid, g x) ∷ pairs f bs else (b.xid, f b.xid) ∷ turned (pairs f bs) x (g x)

  pub pairs_replaced : (bs : List Branch) (x : List ℕ) (s : BranchState) → Rises bs → state_of bs x ≡ Some s → is_in_doubt s ≡ true → ((y : List ℕ) → bytes_eq y x ≡ false → f y ≡ g y)
      → turned (pairs f bs) x (g x) ≡ pairs g bs
  pairs_replaced [] x s rise known doubt same = absurd cc
  pairs_replaced (b ∷ bs) x s rise known doubt same =
      ⊎_elim
      (λ so.
      let at : b.xid ≡ x = same_bytes b.xid x so in
      let above : Above x bs = subst (λ (y : List ℕ). Above y bs) at rise.0 in
      let here = first_state b bs x s so known ∙ doubt in
      let others : pairs f bs ≡ pairs g bs = pairs_agree f g bs rise.1 (λ y d. same y (apart_above bs x y d.0 above d.1)) in
      ap (λ (l : Doubts). turned l x (g x)) (pairs_in f b bs here) ∙ ap (turned_by x b bs) (ap (bytes_eq x) at ∙ bytes_eq-refl x)
      ∙ ap (λ (y : List ℕ). (b.xid, g y) ∷ pairs f bs) (sym at) ∙ ap (λ (l : Doubts). (b.xid, g b.xid) ∷ l) others ∙ sym (pairs_in g b bs here))
      (λ n.
      let tail : state_of bs x ≡ Some s = sym (state_rest b bs x n) ∙ known in
      let rest = pairs_replaced bs x s rise.1 tail doubt same in
      ⊎_elim
      (λ here. ap (λ (l : Doubts). turned l x (g x)) (pairs_in f b bs here) ∙ ap (turned_by x b bs) (eq_turned b.xid x n) ∙ ap (λ (w : Doubt). (b.xid, w) ∷ turned (pairs f bs) x (g x)) (same b.xid n) ∙ ap (λ (l : Doubts). (b.xid, g b.xid) ∷ l) rest ∙ sym (pairs_in g b bs here))
      (λ sure. ap (λ (l : Doubts). turned l x (g x)) (pairs_out f b bs sure) ∙ rest ∙ sym (pairs_out g b bs sure))
      (which (is_in_doubt b.state)))
      (which (bytes_eq b.xid x))

-- then its branch is not known
pub none_left : (bs : List Branch) (x : List ℕ) → state_of (without bs x) x ≡ None
none_left [] x = refl
none_left (b ∷ bs) x =
    let kept : Bool → Option BranchState = λ t. state_of (if not t then b ∷ without bs x else without bs x) x in
    ⊎_elim (λ so. ap kept so ∙ none_left bs x) (λ n. ap kept n ∙ state_rest b (without bs x) x n ∙ none_left bs x) (which (bytes_eq b.xid x))
