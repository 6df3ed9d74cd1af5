-- The units by their owners.
use Rattle.std.proofs.Common.{◌≡◌, ◌⊎◌, inl, inr, ⊎_elim, Bool, true, false, List, [], ◌∷◌, ◌++◌, refl, sym, ◌∙◌, ap, subst, eq-eqb}
use Rattle.std.proofs.lemmas.Bool.{eqb-true}
use Rattle.std.specs.Prelude.{if◌then◌else◌, ◌||◌}
use Rattle.drda_words.proofs.Precedes.{bytes_eq-refl, same_bytes}
use Rattle.tables.specs.Change.{Change}
use Rattle.unit_locks.specs.Claim.{Claim}
use Rattle.unit_locks.specs.Claims.{In}
use Rattle.core_model.specs.Units.{Held, Owner, Work, comes_before, global, has_any, has_work, idle, local, others, same_owner, set_unit, unit_of, with_unit, without}

pub which : (b : Bool) → (b ≡ true) ⊎ (b ≡ false)
which true = inl refl
which false = inr refl

pub both : {X : Type 0} (b : Bool) → b ≡ true → b ≡ false → X
both true so ne = absurd (let e : true ≡ false = ne in cc)
both false so ne = absurd (let e : false ≡ true = so in cc)

pub same_self : (o : Owner) → same_owner o o ≡ true
same_self (local n) = eq-eqb n n refl
same_self (global x) = bytes_eq-refl x

pub owners_same : (o p : Owner) → same_owner o p ≡ true → o ≡ p
owners_same (local m) (local n) h = ap local (eqb-true m n h)
owners_same (local m) (global x) h = both false h refl
owners_same (global x) (local n) h = both false h refl
owners_same (global x) (global y) h = ap global (same_bytes x y h)

-- an owner that is another's is not this one's
not_this : (p o k : Owner) → same_owner p o ≡ false → same_owner o k ≡ true → same_owner p k ≡ false
not_this p o k ne so = subst (λ (x : Owner). same_owner p x ≡ false) (owners_same o k so) ne

pub unit_of_gone : (o : Owner) (hs : List Held) → unit_of o (without o hs) ≡ idle
unit_of_gone o [] = refl
unit_of_gone o (h ∷ hs) =
    ⊎_elim
    (λ so. ap (λ b. unit_of o (if b then without o hs else h ∷ without o hs)) so ∙ unit_of_gone o hs)
    (λ n. ap (λ b. unit_of o (if b then without o hs else h ∷ without o hs)) n ∙ ap (λ b. if b then h.work else unit_of o (without o hs)) n ∙ unit_of_gone o hs)
    (which (same_owner o h.owner))

pub unit_of_without : (p o : Owner) (hs : List Held) → same_owner p o ≡ false → unit_of p (without o hs) ≡ unit_of p hs
unit_of_without p o [] ne = refl
unit_of_without p o (h ∷ hs) ne =
    ⊎_elim
    (λ so. ap (λ b. unit_of p (if b then without o hs else h ∷ without o hs)) so ∙ unit_of_without p o hs ne ∙ sym (ap (λ b. if b then h.work else unit_of p hs) (not_this p o h.owner ne so)))
    (λ n. ap (λ b. unit_of p (if b then without o hs else h ∷ without o hs)) n ∙ ap (λ u. if same_owner p h.owner then h.work else u) (unit_of_without p o hs ne))
    (which (same_owner o h.owner))

-- none of this owner is listed
abbrev pub Lacks : Owner → List Held → Type 0
Lacks o [] = Unit {0}
Lacks o (h ∷ hs) = (same_owner o h.owner ≡ false) × Lacks o hs

pub without_lacks : (o : Owner) (hs : List Held) → Lacks o (without o hs)
without_lacks o [] = tt
without_lacks o (h ∷ hs) =
    let P : Bool → Type 0 = λ b. Lacks o (if b then without o hs else h ∷ without o hs) in
    ⊎_elim (λ so. subst P (sym so) (without_lacks o hs)) (λ n. subst P (sym n) (n, without_lacks o hs)) (which (same_owner o h.owner))

unit_of_placed : (new : Held) (hs : List Held) → Lacks new.owner hs → unit_of new.owner (with_unit new hs) ≡ new.work
unit_of_placed new [] lacks = ap (λ b. if b then new.work else idle) (same_self new.owner)
unit_of_placed new (h ∷ hs) lacks =
    ⊎_elim
    (λ so. ap (λ b. unit_of new.owner (if b then new ∷ h ∷ hs else h ∷ with_unit new hs)) so ∙ ap (λ b. if b then new.work else unit_of new.owner (h ∷ hs)) (same_self new.owner))
    (λ n. ap (λ b. unit_of new.owner (if b then new ∷ h ∷ hs else h ∷ with_unit new hs)) n ∙ ap (λ b. if b then h.work else unit_of new.owner (with_unit new hs)) lacks.0 ∙ unit_of_placed new hs lacks.1)
    (which (comes_before new.owner h.owner))

unit_of_beside : (p : Owner) (new : Held) (hs : List Held) → same_owner p new.owner ≡ false → unit_of p (with_unit new hs) ≡ unit_of p hs
unit_of_beside p new [] ne = ap (λ b. if b then new.work else idle) ne
unit_of_beside p new (h ∷ hs) ne =
    ⊎_elim
    (λ so. ap (λ b. unit_of p (if b then new ∷ h ∷ hs else h ∷ with_unit new hs)) so ∙ ap (λ b. if b then new.work else unit_of p (h ∷ hs)) ne)
    (λ n. ap (λ b. unit_of p (if b then new ∷ h ∷ hs else h ∷ with_unit new hs)) n ∙ ap (λ u. if same_owner p h.owner then h.work else u) (unit_of_beside p new hs ne))
    (which (comes_before new.owner h.owner))

-- a unit without work is the idle one
no_work : (xs : List Change) (cs : List Claim) → (has_any xs || has_any cs) ≡ false → record { changes = xs; claims = cs } ≡ idle
no_work [] [] h = refl
no_work [] (c ∷ cs) h = both true refl h
no_work (x ∷ xs) cs h = both true refl h

pub unit_of_set : (o : Owner) (u : Work) (hs : List Held) → unit_of o (set_unit o u hs) ≡ u
unit_of_set o u hs =
    let new : Held = record { owner = o; work = u } in
    ⊎_elim
    (λ so. ap (λ b. unit_of o (if b then with_unit new (without o hs) else without o hs)) so ∙ unit_of_placed new (without o hs) (without_lacks o hs))
    (λ n. ap (λ b. unit_of o (if b then with_unit new (without o hs) else without o hs)) n ∙ unit_of_gone o hs ∙ sym (no_work u.changes u.claims n))
    (which (has_work u))

pub unit_of_other : (p o : Owner) (u : Work) (hs : List Held) → same_owner p o ≡ false → unit_of p (set_unit o u hs) ≡ unit_of p hs
unit_of_other p o u hs ne =
    let new : Held = record { owner = o; work = u } in
    ⊎_elim
    (λ so. ap (λ b. unit_of p (if b then with_unit new (without o hs) else without o hs)) so ∙ unit_of_beside p new (without o hs) ne ∙ unit_of_without p o hs ne)
    (λ n. ap (λ b. unit_of p (if b then with_unit new (without o hs) else without o hs)) n ∙ unit_of_without p o hs ne)
    (which (has_work u))

-- ---- the claims of the others

pub in_left : (c : Claim) (xs ys : List Claim) → In c xs → In c (xs ++ ys)
in_left c [] ys i = absurd i
in_left c (x ∷ xs) ys (inl e) = inl e
in_left c (x ∷ xs) ys (inr i) = inr (in_left c xs ys i)

pub in_right : (c : Claim) (xs ys : List Claim) → In c ys → In c (xs ++ ys)
in_right c [] ys i = i
in_right c (x ∷ xs) ys i = inr (in_right c xs ys i)

-- what a unit of another owner claims is among them
pub others_has : (p o : Owner) (hs : List Held) (c : Claim) → same_owner p o ≡ false → In c (unit_of p hs).claims → In c (others o hs)
others_has p o [] c ne i = absurd i
others_has p o (h ∷ hs) c ne i =
    let P : Bool → Type 0 = λ b. In c (if b then others o hs else h.work.claims ++ others o hs) in
    let Q : Bool → Type 0 = λ b. In c (if b then h.work else unit_of p hs).claims in
    ⊎_elim
    (λ so. subst P (sym so) (others_has p o hs c ne (subst Q (not_this p o h.owner ne so) i)))
    (λ n. subst P (sym n) (⊎_elim
    (λ mine. in_left c h.work.claims (others o hs) (subst Q mine i))
    (λ not_mine. in_right c h.work.claims (others o hs) (others_has p o hs c ne (subst Q not_mine i)))
    (which (same_owner p h.owner))))
    (which (same_owner o h.owner))
