-- What a unit claims: each claim once, and all names where it creates a table.
use Rattle.std.proofs.Common.{◌≡◌, inl, inr, ⊎_elim, Bool, true, false, List, [], ◌∷◌, ◌++◌, refl, sym, ◌∙◌, ap}
use Rattle.std.specs.Prelude.{if◌then◌else◌, ◌&&◌, ◌||◌}
use Rattle.std.specs.List.{list_any}
use Rattle.drda_words.proofs.Precedes.{bytes_eq-refl}
use Rattle.tables.specs.Change.{Change, create, put, remove}
use Rattle.unit_locks.specs.Claim.{Claim, claim_bytes}
use Rattle.unit_locks.specs.Claims.{AddsClaims, In, added, all_added, has, is_same}
use Rattle.core_model.proofs.Owners.{which}
use Rattle.recovery.specs.Durable.{creates_none, is_claimed, names_claim}

-- ---- each claim once

both_added : (cs ds es : List Claim) → all_added cs (ds ++ es) ≡ all_added (all_added cs ds) es
both_added cs [] es = refl
both_added cs (d ∷ ds) es = both_added (added cs d) ds es

abbrev pub IsOnce : List Claim → Type 0
IsOnce cs = all_added [] cs ≡ cs

once_added : (cs : List Claim) (c : Claim) → IsOnce cs → IsOnce (added cs c)
once_added cs c once = by_case (has cs c) refl
  where
    by_case : (t : Bool) → has cs c ≡ t → IsOnce (if t then cs else cs ++ c ∷ [])
    by_case true h = once
    by_case false h = both_added [] cs (c ∷ []) ∙ ap (λ (ds : List Claim). added ds c) once ∙ ap (λ t. if t then cs else cs ++ c ∷ []) h

pub once_all : (cs ds : List Claim) → IsOnce cs → IsOnce (all_added cs ds)
once_all cs [] once = once
once_all cs (d ∷ ds) once = once_all (added cs d) ds (once_added cs d once)

-- ---- a claim that is among others

or_true : (b c : Bool) → c ≡ true → (b || c) ≡ true
or_true true c h = refl
or_true false c h = h

pub in_has : (c : Claim) (cs : List Claim) → In c cs → has cs c ≡ true
in_has c [] i = absurd i
in_has c (d ∷ ds) (inl e) = ap (λ (x : Claim). is_same c x || list_any (is_same c) ds) (sym e) ∙ ap (λ b. b || list_any (is_same c) ds) (bytes_eq-refl (claim_bytes c))
in_has c (d ∷ ds) (inr i) = or_true (is_same c d) (list_any (is_same c) ds) (in_has c ds i)

-- ---- all names

pub creates_either : (xs ys : List Change) → creates_none (xs ++ ys) ≡ (creates_none xs && creates_none ys)
creates_either [] ys = refl
creates_either (create name schema ∷ xs) ys = refl
creates_either (put name row ∷ xs) ys = creates_either xs ys
creates_either (remove name key ∷ xs) ys = creates_either xs ys

-- where a table is created, all names are claimed
abbrev pub ClaimsNames : List Change → List Claim → Type 0
ClaimsNames xs cs = creates_none xs ≡ false → In names_claim cs

pub names_in : AddsClaims → (xs : List Change) (cs : List Claim) → is_claimed xs cs ≡ true → ClaimsNames xs cs
names_in adds xs cs h none = adds.tells names_claim cs (sym (ap (λ b. b || has cs names_claim) none) ∙ h)

pub claimed_if : (xs : List Change) (cs : List Claim) → ClaimsNames xs cs → is_claimed xs cs ≡ true
claimed_if xs cs names = by_case (creates_none xs) refl
  where
    by_case : (t : Bool) → creates_none xs ≡ t → (t || has cs names_claim) ≡ true
    by_case true h = refl
    by_case false h = in_has names_claim cs (names h)

-- one of the two creates a table
pub either_creates : {X : Type 0} (xs ys : List Change) → creates_none (xs ++ ys) ≡ false → (creates_none xs ≡ false → X) → (creates_none ys ≡ false → X) → X
either_creates xs ys h old new = ⊎_elim (λ e. new (sym (ap (λ b. b && creates_none ys) e) ∙ sym (creates_either xs ys) ∙ h)) (λ e. old e) (which (creates_none xs))

pub none_created : (xs ys : List Change) → creates_none xs ≡ true → creates_none ys ≡ true → creates_none (xs ++ ys) ≡ true
none_created xs ys old new = creates_either xs ys ∙ ap (λ b. b && creates_none ys) old ∙ new

-- claims stay and come
pub names_more : AddsClaims → (xs ys : List Change) (cs ds : List Claim) → ClaimsNames xs cs → ClaimsNames ys ds → ClaimsNames (xs ++ ys) (all_added cs ds)
names_more adds xs ys cs ds old new h = either_creates xs ys h (λ e. adds.old names_claim cs ds (old e)) (λ e. adds.new names_claim cs ds (new e))
