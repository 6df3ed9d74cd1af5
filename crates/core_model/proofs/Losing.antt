-- What goes with a conversation.
use Rattle.std.proofs.Common.{◌≡◌, ◌≢◌, inl, inr, ⊎_elim, ℕ, Bool, true, false, ◌==◌, List, [], ◌∷◌, Option, Some, refl, sym, ◌∙◌, ap, subst}
use Rattle.std.proofs.lemmas.Bool.{eqb-true}
use Rattle.std.specs.Prelude.{if◌then◌else◌, bytes_eq, filter, map, unwrap_or}
use Rattle.drda_words.proofs.Precedes.{same_bytes}
use Rattle.xa_manager.specs.declared.branch.Branch.{Branch}
use Rattle.xa_manager.specs.declared.branch.BranchState.{BranchState}
use Rattle.xa_manager.specs.Branch.{is_lost_with, state_of}
use Rattle.core_model.specs.Units.{Owner, global, idle, local, same_owner, unit_of, without}
use Rattle.core_model.specs.Events.{Base, Event, Leave, bare, bare_run}
use Rattle.core_model.specs.Step.{lost_xids}
use Rattle.core_model.specs.Laws.{InXids, LostLeavesNothing}
use Rattle.core_model.proofs.Owners.{owners_same, unit_of_gone, unit_of_without, which}

abbrev leaves : List (List ℕ) → List Event
leaves xs = map (λ x. Leave (global x)) xs

left_store : (xs : List (List ℕ)) (b : Base) → (bare_run (leaves xs) b).store ≡ b.store
left_store [] b = refl
left_store (x ∷ xs) b = left_store xs (bare b (Leave (global x)))

still_idle : (p : Owner) (xs : List (List ℕ)) (b : Base) → unit_of p b.units ≡ idle → unit_of p (bare_run (leaves xs) b).units ≡ idle
still_idle p [] b h = h
still_idle p (x ∷ xs) b h =
    still_idle p xs (bare b (Leave (global x)))
    (⊎_elim
    (λ so. subst (λ (o : Owner). unit_of p (without o b.units) ≡ idle) (owners_same p (global x) so) (unit_of_gone p b.units))
    (λ n. unit_of_without p (global x) b.units n ∙ h)
    (which (same_owner p (global x))))

left_idle : (xid : List ℕ) (xs : List (List ℕ)) (b : Base) → InXids xid xs → unit_of (global xid) (bare_run (leaves xs) b).units ≡ idle
left_idle xid [] b i = absurd i
left_idle xid (x ∷ xs) b (inl e) =
    still_idle (global xid) xs (bare b (Leave (global x))) (subst (λ (y : List ℕ). unit_of (global xid) (without (global y) b.units) ≡ idle) e (unit_of_gone (global xid) b.units))
left_idle xid (x ∷ xs) b (inr i) = left_idle xid xs (bare b (Leave (global x))) i

others_left : (p : Owner) (xs : List (List ℕ)) (b : Base) → ((x : List ℕ) → InXids x xs → same_owner p (global x) ≡ false) → unit_of p (bare_run (leaves xs) b).units ≡ unit_of p b.units
others_left p [] b h = refl
others_left p (x ∷ xs) b h = others_left p xs (bare b (Leave (global x))) (λ y i. h y (inr i)) ∙ unit_of_without p (global x) b.units (h x (inl refl))

-- the XIDs of branches that pass a test
module _ (test : Branch → Bool) where
  abbrev passing : List Branch → List (List ℕ)
  passing bs = map (λ (b : Branch). b.xid) (filter test bs)

  abbrev picked_by : Bool → Branch → List Branch → List (List ℕ)
  picked_by t b bs = map (λ (b : Branch). b.xid) (if t then b ∷ filter test bs else filter test bs)

  behind : (t : Bool) (xid : List ℕ) (b : Branch) (bs : List Branch) → InXids xid (passing bs) → InXids xid (picked_by t b bs)
  behind true xid b bs i = inr i
  behind false xid b bs i = i

  found : (xid : List ℕ) (state : BranchState) (bs : List Branch) → ((b : Branch) → b.state ≡ state → test b ≡ true) → state_of bs xid ≡ Some state → InXids xid (passing bs)
  found xid state [] passes e = absurd cc
  found xid state (b ∷ bs) passes e =
      ⊎_elim
      (λ so.
      let here : b.state ≡ state = ap (λ (o : Option BranchState). unwrap_or o state) (sym (ap (λ t. if t then Some b.state else state_of bs xid) so) ∙ e) in
      subst (λ t. InXids xid (picked_by t b bs)) (sym (passes b here)) (inl (sym (same_bytes b.xid xid so))))
      (λ n. behind (test b) xid b bs (found xid state bs passes (sym (ap (λ t. if t then Some b.state else state_of bs xid) n) ∙ e)))
      (which (bytes_eq b.xid xid))

not_equal : (m n : ℕ) → m ≢ n → (m == n) ≡ false
not_equal m n ne = ⊎_elim (λ so. absurd (ne (eqb-true m n so))) (λ f. f) (which (m == n))

not_among : (xid : List ℕ) (xs : List (List ℕ)) → (InXids xid xs → ⊥) → (x : List ℕ) → InXids x xs → bytes_eq xid x ≡ false
not_among xid xs out x i = ⊎_elim (λ so. absurd (out (subst (λ (y : List ℕ). InXids y xs) (sym (same_bytes xid x so)) i))) (λ f. f) (which (bytes_eq xid x))

pub lost_leaves_nothing : LostLeavesNothing
lost_leaves_nothing s c =
    let xs = lost_xids s.branches c in
    let first = bare s.base (Leave (local c)) in
    record {
      store = left_store xs first;
      local_unit = still_idle (local c) xs first (unit_of_gone (local c) s.base.units);
      branches = λ xid state is last. left_idle xid xs first (found (λ b. is_lost_with c b.state) xid state s.branches (λ b same. ap (is_lost_with c) same ∙ last) is);
      others = λ other ne. others_left (local other) xs first (λ x i. refl) ∙ unit_of_without (local other) (local c) s.base.units (not_equal other c ne);
      globals = λ xid out. others_left (global xid) xs first (not_among xid xs out) ∙ unit_of_without (global xid) (local c) s.base.units refl;
    }
