-- Branches whose XIDs rise, and what an edit does to them.
use Rattle.std.proofs.Common.{◌≡◌, ℕ, suc, ◌+◌, ◌<◌, ◌≤◌, Bool, true, false, cond, not, List, [], ◌∷◌, length, Some, None, refl, ap, subst, arith}
use Rattle.std.specs.Prelude.{filter}
use Rattle.std.specs.Str.{bytes_eq}
use Rattle.std.proofs.lemmas.List.Sums.{sum_by-cons}
use Rattle.drda_words.specs.Order.{precedes, IsRising}
use Rattle.xa_manager.specs.declared.branch.Branch.{Branch}
use Rattle.xa_manager.specs.declared.branch.BranchState.{BranchState}
use Rattle.xa_manager.specs.declared.due.Decision.{Decision}
use Rattle.xa_manager.specs.declared.branch.BranchState.TheVariants.{Active, Heuristic, Idle, RollbackOnly, Prepared}
use Rattle.xa_manager.specs.Branch.{IsTable, is_in_doubt, is_active, is_joined_by, count_of, state_of, joined_xid, in_doubt_count, with_branch, with_state, without}
use Rattle.xa_manager.specs.Counts.{weight}
use Rattle.drda_words.proofs.Precedes.{precedes-trans, precedes_another, precedes_or, same_bytes}

-- an XID comes before each branch
abbrev pub Above : List ℕ → List Branch → Type 0
Above x [] = Unit {0}
Above x (b ∷ bs) = (precedes x b.xid ≡ true) × Above x bs

-- each branch comes before all that follow
abbrev pub Rises : List Branch → Type 0
Rises [] = Unit {0}
Rises (b ∷ bs) = Above b.xid bs × Rises bs

above_through : (x y : List ℕ) (bs : List Branch) → precedes x y ≡ true → Above y bs → Above x bs
above_through x y [] p h = tt
above_through x y (b ∷ bs) p h = (precedes-trans x y b.xid p h.0, above_through x y bs p h.1)

pub rises : (bs : List Branch) → IsRising (λ b. b.xid) bs → Rises bs
rises [] h = tt
rises (b ∷ []) h = (tt, tt)
rises (b ∷ c ∷ bs) h =
    let rest = rises (c ∷ bs) h.1 in
    ((h.0, above_through b.xid c.xid bs h.0 rest.0), rest)

pub rising : (bs : List Branch) → Rises bs → IsRising (λ b. b.xid) bs
rising [] h = tt
rising (b ∷ []) h = tt
rising (b ∷ c ∷ bs) h = (h.0.0, rising (c ∷ bs) h.1)

-- ---- without some

above_filter : (p : Branch → Bool) (x : List ℕ) (bs : List Branch) → Above x bs → Above x (filter p bs)
above_filter p x [] h = tt
above_filter p x (b ∷ bs) h =
    let rest = above_filter p x bs h.1 in
    elim (p b) as (λ t. Above x (cond t (b ∷ filter p bs) (filter p bs))) [ true ↦ (h.0, rest) | false ↦ rest ]

pub rises_filter : (p : Branch → Bool) (bs : List Branch) → Rises bs → Rises (filter p bs)
rises_filter p [] h = tt
rises_filter p (b ∷ bs) h =
    let rest = rises_filter p bs h.1 in
    elim (p b) as (λ t. Rises (cond t (b ∷ filter p bs) (filter p bs))) [ true ↦ (above_filter p b.xid bs h.0, rest) | false ↦ rest ]

-- ---- with another state

-- the branch with that state where it has the XID
abbrev turned : List ℕ → BranchState → Branch → Branch
turned x s b = cond (bytes_eq b.xid x) (record { xid = b.xid; state = s }) b

turned-xid : (x : List ℕ) (s : BranchState) (b : Branch) → (turned x s b).xid ≡ b.xid
turned-xid x s b = by_case (bytes_eq b.xid x)
  where
    by_case : (t : Bool) → (let c : Branch = cond t (record { xid = b.xid; state = s }) b in c.xid) ≡ b.xid
    by_case true = refl
    by_case false = refl

above_state : (y x : List ℕ) (s : BranchState) (bs : List Branch) → Above y bs → Above y (with_state bs x s)
above_state y x s [] h = tt
above_state y x s (b ∷ bs) h = (rw (turned-xid x s b) h.0, above_state y x s bs h.1)

pub rises_state : (x : List ℕ) (s : BranchState) (bs : List Branch) → Rises bs → Rises (with_state bs x s)
rises_state x s [] h = tt
rises_state x s (b ∷ bs) h = (rw (turned-xid x s b) (above_state b.xid x s bs h.0), rises_state x s bs h.1)

-- ---- with one more

above_branch : (y : List ℕ) (bs : List Branch) (new : Branch) → precedes y new.xid ≡ true → Above y bs → Above y (with_branch bs new)
above_branch y [] new p h = (p, tt)
above_branch y (b ∷ bs) new p h =
    let rest = above_branch y bs new p h.1 in
    elim (precedes new.xid b.xid) as (λ t. Above y (cond t (new ∷ b ∷ bs) (b ∷ with_branch bs new))) [ true ↦ (p, h) | false ↦ (h.0, rest) ]

-- the first branch does not have the XID, and none of the others has
pub unknown_parts : (b : Branch) (bs : List Branch) (x : List ℕ) → state_of (b ∷ bs) x ≡ None → (bytes_eq b.xid x ≡ false) × (state_of bs x ≡ None)
unknown_parts b bs x e = by_case (bytes_eq b.xid x) refl e
  where
    by_case : (t : Bool) → bytes_eq b.xid x ≡ t → cond t (Some b.state) (state_of bs x) ≡ None → (bytes_eq b.xid x ≡ false) × (state_of bs x ≡ None)
    by_case true f g = absurd cc
    by_case false f g = (f, g)

pub rises_branch : (bs : List Branch) (new : Branch) → state_of bs new.xid ≡ None → Rises bs → Rises (with_branch bs new)
rises_branch [] new e h = (tt, tt)
rises_branch (b ∷ bs) new e h =
    let u = unknown_parts b bs new.xid e in
    let rest = rises_branch bs new u.1 h.1 in
    elim (precedes new.xid b.xid) as (λ t. precedes new.xid b.xid ≡ t → Rises (cond t (new ∷ b ∷ bs) (b ∷ with_branch bs new))) [
      | true ↦ λ f. ((f, above_through new.xid b.xid bs f h.0), h)
      | false ↦ λ f. (above_branch b.xid bs new (precedes_or new.xid b.xid f u.0) h.0, rest)
    ] refl

-- ---- numbers

pub length-with_branch : (bs : List Branch) (new : Branch) → length (with_branch bs new) ≡ suc (length bs)
length-with_branch [] new = refl
length-with_branch (b ∷ bs) new =
    let rest = length-with_branch bs new in
    elim (precedes new.xid b.xid) as (λ t. length (cond t (new ∷ b ∷ bs) (b ∷ with_branch bs new)) ≡ suc (suc (length bs))) [
      | true ↦ refl
      | false ↦ ap (λ (n : ℕ). suc n) rest
    ]

module _ (p : BranchState → Bool) where
  -- the first counts for itself
  pub counted : (b : Branch) (bs : List Branch) → count_of p (b ∷ bs) ≡ weight p b.state + count_of p bs
  counted b bs = sum_by-cons (λ c. cond (p c.state) 1 0) b bs

  pub count_of-with_branch : (bs : List Branch) (new : Branch) → count_of p (with_branch bs new) ≡ weight p new.state + count_of p bs
  count_of-with_branch [] new = counted new []
  count_of-with_branch (b ∷ bs) new =
      let rest = count_of-with_branch bs new in
      let front : count_of p (new ∷ b ∷ bs) ≡ weight p new.state + count_of p (b ∷ bs) = counted new (b ∷ bs) in
      let behind : count_of p (b ∷ with_branch bs new) ≡ weight p new.state + count_of p (b ∷ bs) = omega (arith, rest, counted b (with_branch bs new), counted b bs) in
      elim (precedes new.xid b.xid) as (λ t. count_of p (cond t (new ∷ b ∷ bs) (b ∷ with_branch bs new)) ≡ weight p new.state + count_of p (b ∷ bs)) [ true ↦ front | false ↦ behind ]

  pub count_of-filter : (q : Branch → Bool) (bs : List Branch) → count_of p (filter q bs) ≤ count_of p bs
  count_of-filter q [] = omega arith
  count_of-filter q (b ∷ bs) =
      let rest = count_of-filter q bs in
      let kept : count_of p (b ∷ filter q bs) ≤ count_of p (b ∷ bs) = omega (arith, rest, counted b (filter q bs), counted b bs) in
      let dropped : count_of p (filter q bs) ≤ count_of p (b ∷ bs) = omega (arith, rest, counted b bs) in
      elim (q b) as (λ t. count_of p (cond t (b ∷ filter q bs) (filter q bs)) ≤ count_of p (b ∷ bs)) [ true ↦ kept | false ↦ dropped ]

pub length-filter-le : (p : Branch → Bool) (bs : List Branch) → length (filter p bs) ≤ length bs
length-filter-le p [] = omega arith
length-filter-le p (b ∷ bs) =
    let rest = length-filter-le p bs in
    elim (p b) as (λ t. length (cond t (b ∷ filter p bs) (filter p bs)) ≤ suc (length bs)) [
      | true ↦ omega (arith, rest)
      | false ↦ omega (arith, rest)
    ]

pub length-with_state : (bs : List Branch) (x : List ℕ) (s : BranchState) → length (with_state bs x s) ≡ length bs
length-with_state [] x s = refl
length-with_state (b ∷ bs) x s = ap (λ (n : ℕ). suc n) (length-with_state bs x s)

-- no branch behind an XID has it
pub with_state_above : (bs : List Branch) (x : List ℕ) (s : BranchState) → Above x bs → with_state bs x s ≡ bs
with_state_above [] x s h = refl
with_state_above (b ∷ bs) x s h = rw (precedes_another x b.xid h.0, with_state_above bs x s h.1) refl

pub without_above : (bs : List Branch) (x : List ℕ) → Above x bs → without bs x ≡ bs
without_above [] x h = refl
without_above (b ∷ bs) x h = rw (precedes_another x b.xid h.0, without_above bs x h.1) refl

pub state_of_above : (bs : List Branch) (x : List ℕ) → Above x bs → state_of bs x ≡ None
state_of_above [] x h = refl
state_of_above (b ∷ bs) x h = rw (precedes_another x b.xid h.0) (state_of_above bs x h.1)

-- the branch of x, which is known, counts by its new state in place of the old one
pub count_of-with_state : (p : BranchState → Bool) (bs : List Branch) (x : List ℕ) (s old : BranchState) → Rises bs → state_of bs x ≡ Some old → count_of p (with_state bs x s) + weight p old ≡ weight p s + count_of p bs
count_of-with_state p [] x s old h known = absurd cc
count_of-with_state p (b ∷ bs) x s old h known =
    let set_to : Branch = record { xid = b.xid; state = s } in
    let here : bytes_eq b.xid x ≡ true → count_of p (set_to ∷ with_state bs x s) + weight p old ≡ weight p s + count_of p (b ∷ bs) = λ f.
    let behind : Above x bs = subst (λ (y : List ℕ). Above y bs) (same_bytes b.xid x f) h.0 in
    let others : count_of p (with_state bs x s) ≡ count_of p bs = ap (λ (l : List Branch). count_of p l) (with_state_above bs x s behind) in
    let it : Some b.state ≡ Some old = rw f at known in
    let state : b.state ≡ old = cc in
    let same : weight p b.state ≡ weight p old = ap (λ (t : BranchState). weight p t) state in
    omega (arith, others, same, counted p set_to (with_state bs x s), counted p b bs) in
    let behind : bytes_eq b.xid x ≡ false → count_of p (b ∷ with_state bs x s) + weight p old ≡ weight p s + count_of p (b ∷ bs) = λ f.
    let rest = count_of-with_state p bs x s old h.1 (rw f at known) in
    omega (arith, rest, counted p b (with_state bs x s), counted p b bs) in
    elim (bytes_eq b.xid x) as (λ t. bytes_eq b.xid x ≡ t → count_of p ((cond t set_to b) ∷ with_state bs x s) + weight p old ≡ weight p s + count_of p (b ∷ bs)) [ true ↦ here | false ↦ behind ] refl

-- and no longer counts once it is gone
pub count_of-without : (p : BranchState → Bool) (bs : List Branch) (x : List ℕ) (old : BranchState) → Rises bs → state_of bs x ≡ Some old → count_of p (without bs x) + weight p old ≡ count_of p bs
count_of-without p [] x old h known = absurd cc
count_of-without p (b ∷ bs) x old h known =
    let here : bytes_eq b.xid x ≡ true → count_of p (without bs x) + weight p old ≡ count_of p (b ∷ bs) = λ f.
    let behind : Above x bs = subst (λ (y : List ℕ). Above y bs) (same_bytes b.xid x f) h.0 in
    let others : count_of p (without bs x) ≡ count_of p bs = ap (λ (l : List Branch). count_of p l) (without_above bs x behind) in
    let it : Some b.state ≡ Some old = rw f at known in
    let state : b.state ≡ old = cc in
    let same : weight p b.state ≡ weight p old = ap (λ (t : BranchState). weight p t) state in
    omega (arith, others, same, counted p b bs) in
    let behind : bytes_eq b.xid x ≡ false → count_of p (b ∷ without bs x) + weight p old ≡ count_of p (b ∷ bs) = λ f.
    let rest = count_of-without p bs x old h.1 (rw f at known) in
    omega (arith, rest, counted p b (without bs x), counted p b bs) in
    elim (bytes_eq b.xid x) as (λ t. bytes_eq b.xid x ≡ t → count_of p (cond (not t) (b ∷ without bs x) (without bs x)) + weight p old ≡ count_of p (b ∷ bs)) [ true ↦ here | false ↦ behind ] refl

-- where no branch is active, a conversation is joined to none
joined_active : (c : ℕ) (s : BranchState) → is_active s ≡ false → is_joined_by c s ≡ false
joined_active c (Active d) e = absurd cc
joined_active c (Idle d) e = refl
joined_active c (RollbackOnly d) e = refl
joined_active c Prepared e = refl
joined_active c (Heuristic d) e = refl

pub none_joined : (bs : List Branch) (c : ℕ) → count_of is_active bs ≡ 0 → joined_xid bs c ≡ None
none_joined [] c e = refl
none_joined (b ∷ bs) c e =
    let one = counted is_active b bs in
    let rest = none_joined bs c (omega (arith, one, e)) in
    let idle : is_active b.state ≡ false = by_case (is_active b.state) (omega (arith, one, e)) in
    rw (joined_active c b.state idle) rest
  where
    by_case : (t : Bool) → cond t 1 0 ≤ 0 → t ≡ false
    by_case true le = absurd (omega arith)
    by_case false le = refl

-- ---- the whole

pub table_filter : (p : Branch → Bool) (bs : List Branch) → IsTable bs → IsTable (filter p bs)
table_filter p bs t = record {
  rising = rising (filter p bs) (rises_filter p bs (rises bs t.rising));
  known = omega (arith, t.known, length-filter-le p bs);
  in_doubt = omega (arith, t.in_doubt, count_of-filter is_in_doubt p bs);
}

weight_room : (s : BranchState) (n : ℕ) → n ≤ 256 → (is_in_doubt s ≡ true → n < 256) → weight is_in_doubt s + n ≤ 256
weight_room s n h room = by_case (is_in_doubt s) refl
  where
    by_case : (t : Bool) → is_in_doubt s ≡ t → cond t 1 0 + n ≤ 256
    by_case true f = let r = room f in omega arith
    by_case false f = omega arith

pub table_state : (bs : List Branch) (x : List ℕ) (s old : BranchState) → IsTable bs → state_of bs x ≡ Some old → (is_in_doubt s ≡ true → in_doubt_count bs < 256) → IsTable (with_state bs x s)
table_state bs x s old t is room =
    let r = rises bs t.rising in
    let count = count_of-with_state is_in_doubt bs x s old r is in
    let fits = weight_room s (in_doubt_count bs) t.in_doubt room in
    record {
      rising = rising (with_state bs x s) (rises_state x s bs r);
      known = rw (length-with_state bs x s) t.known;
      in_doubt = omega arith;
    }

-- a prepared branch that is decided heuristically is in doubt as before
pub table_decided : (bs : List Branch) (x : List ℕ) (d : Decision) → IsTable bs → state_of bs x ≡ Some Prepared → IsTable (with_state bs x (Heuristic d))
table_decided bs x d t is =
    let r = rises bs t.rising in
    let count = count_of-with_state is_in_doubt bs x (Heuristic d) Prepared r is in
    record {
      rising = rising (with_state bs x (Heuristic d)) (rises_state x (Heuristic d) bs r);
      known = rw (length-with_state bs x (Heuristic d)) t.known;
      in_doubt = omega (arith, count, t.in_doubt);
    }

pub table_branch : (bs : List Branch) (new : Branch) → IsTable bs → state_of bs new.xid ≡ None → length bs < 1024 → (is_in_doubt new.state ≡ true → in_doubt_count bs < 256) → IsTable (with_branch bs new)
table_branch bs new t unknown known room =
    let count = count_of-with_branch is_in_doubt bs new in
    let fits = weight_room new.state (in_doubt_count bs) t.in_doubt room in
    record {
      rising = rising (with_branch bs new) (rises_branch bs new unknown (rises bs t.rising));
      known = rw (length-with_branch bs new) known;
      in_doubt = omega arith;
    }

-- ---- the counts that are kept

-- one branch counts once at most, and no more than all
pub weight-le : (p : BranchState → Bool) (s : BranchState) → weight p s ≤ 1
weight-le p s = by_case (p s)
  where
    by_case : (t : Bool) → cond t 1 0 ≤ 1
    by_case true = omega arith
    by_case false = omega arith

pub count_of-le : (p : BranchState → Bool) (bs : List Branch) → count_of p bs ≤ length bs
count_of-le p [] = omega arith
count_of-le p (b ∷ bs) = omega (arith, count_of-le p bs, counted p b bs, weight-le p b.state)

-- a branch that is known is counted
pub weight-known : (p : BranchState → Bool) (bs : List Branch) (x : List ℕ) (old : BranchState) → Rises bs → state_of bs x ≡ Some old → weight p old ≤ count_of p bs
weight-known p bs x old h known = omega (arith, count_of-without p bs x old h known)
