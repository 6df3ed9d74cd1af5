-- What the law of serial order is stated over, and what it needs: a store, changes, claims, and calls that
-- claim, answer and change. Nothing here knows what a call is.
use Rattle.std.specs.Prelude.{◌≡◌, ◌⊎◌, Bool, true, false, List, [], ◌∷◌, if◌then◌else◌}

pub record Words : Type 1 where
  pub Store : Type 0
  pub Change : Type 0
  pub Claim : Type 0
  pub Call : Type 0
  pub Answer : Type 0
  pub apply : Change → Store → Store
  pub clash : Claim → Claim → Bool
  -- the claims of a unit with those of a call
  pub added : List Claim → List Claim → List Claim
  -- more claims than a unit may have
  pub is_full : List Claim → Bool
  -- of a call, in what its unit sees; of the unit's changes so far the bytes count
  pub claims : Call → Store → List Claim
  pub answer : Call → List Change → Store → Answer
  pub changes : Call → List Change → Store → List Change
  -- what a store is, which changes keep
  pub Sound : Store → Type 0
  -- that a change, over a store, lies in a write claim among these
  pub Within : Store → Change → List Claim → Type 0

abbrev pub In : {X : Type 0} → X → List X → Type 0
In x [] = ⊥
In x (y ∷ ys) = (x ≡ y) ⊎ In x ys

abbrev pub Fewer : {X : Type 0} → List X → List X → Type 0
Fewer {X = X} xs ys = (x : X) → In x xs → In x ys

-- the claim clashes with one of these
abbrev pub clashes_one : (w : Words) → w.Claim → List w.Claim → Bool
clashes_one w c [] = false
clashes_one w c (d ∷ ds) = if w.clash c d then true else clashes_one w c ds

-- one of the first clashes with one of the second: every pair is compared
abbrev pub clashes : (w : Words) → List w.Claim → List w.Claim → Bool
clashes w [] ds = false
clashes w (c ∷ cs) ds = if clashes_one w c ds then true else clashes w cs ds

-- no claim of the one clashes with one of the other
abbrev pub Apart : (w : Words) → List w.Claim → List w.Claim → Type 0
Apart w cs ds = (c d : w.Claim) → In c cs → In d ds → w.clash c d ≡ false

-- the store after changes, the first one first
abbrev pub apply_all : (w : Words) → List w.Change → w.Store → w.Store
apply_all w [] s = s
apply_all w (x ∷ xs) s = apply_all w xs (w.apply x s)

-- each of the changes lies in a write claim among these
abbrev pub AllWithin : (w : Words) → w.Store → List w.Change → List w.Claim → Type 0
AllWithin w s xs cs = (x : w.Change) → In x xs → w.Within s x cs

-- what is asked of the words
pub record Laws (w : Words) : Type 1 where
  -- the second store shows under the claims what the first one shows
  pub Agree : List w.Claim → w.Store → w.Store → Type 0
  pub agree_refl : (cs : List w.Claim) (s : w.Store) → Agree cs s s
  pub agree_trans : (cs : List w.Claim) (s t u : w.Store) → Agree cs s t → Agree cs t u → Agree cs s u
  pub agree_fewer : (cs ds : List w.Claim) (s t : w.Store) → Fewer cs ds → Agree ds s t → Agree cs s t
  pub clash_sym : (c d : w.Claim) → w.clash c d ≡ false → w.clash d c ≡ false
  pub added_old : (cs ds : List w.Claim) → Fewer cs (w.added cs ds)
  pub added_new : (cs ds : List w.Claim) → Fewer ds (w.added cs ds)
  pub added_only : (cs ds : List w.Claim) (c : w.Claim) → In c (w.added cs ds) → In c cs ⊎ In c ds
  -- the second store has all that the first one has for good
  pub Grows : w.Store → w.Store → Type 0
  pub grows_refl : (s : w.Store) → Grows s s
  pub grows_trans : (s t u : w.Store) → Grows s t → Grows t u → Grows s u
  pub grows_apply : (x : w.Change) (s : w.Store) → Grows s (w.apply x s)
  pub sound_apply : (x : w.Change) (cs : List w.Claim) (s : w.Store) → w.Sound s → w.Within s x cs → w.Sound (w.apply x s)
  pub within_grows : (x : w.Change) (cs : List w.Claim) (s t : w.Store) → Grows s t → w.Within s x cs → w.Within t x cs
  pub within_more : (s : w.Store) (x : w.Change) (cs ds : List w.Claim) → Fewer cs ds → w.Within s x cs → w.Within s x ds
  -- a change that lies in another unit's claims leaves what is claimed
  pub foreign : (x : w.Change) (cs ds : List w.Claim) (s : w.Store) → w.Within s x ds → Apart w ds cs → Agree cs s (w.apply x s)
  -- one of the unit's own is the same in both stores
  pub own : (x : w.Change) (cs : List w.Claim) (s t : w.Store) → w.Within s x cs → Agree cs s t → Agree cs (w.apply x s) (w.apply x t)
  -- the frame law: a call depends on what it claims alone
  pub same_claims : (call : w.Call) (s t : w.Store) → w.Sound s → w.Sound t → Agree (w.claims call s) s t → w.claims call s ≡ w.claims call t
  pub same_answer : (call : w.Call) (xs : List w.Change) (s t : w.Store) → w.Sound s → w.Sound t → Agree (w.claims call s) s t → w.answer call xs s ≡ w.answer call xs t
  pub same_changes : (call : w.Call) (xs : List w.Change) (s t : w.Store) → w.Sound s → w.Sound t → Agree (w.claims call s) s t → w.changes call xs s ≡ w.changes call xs t
  -- and changes what it claims to write, said of the store below the unit's own changes
  pub lies : (call : w.Call) (xs : List w.Change) (cs : List w.Claim) (s : w.Store) (x : w.Change) → w.Sound s → AllWithin w s xs cs
      → In x (w.changes call xs (apply_all w xs s)) → w.Within s x (w.added cs (w.claims call (apply_all w xs s)))
