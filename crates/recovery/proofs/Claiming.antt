-- A unit's claims, each once, and the claim of all names among them.
use Rattle.std.proofs.Common.{◌≡◌, ◌+◌, ◌≤◌, List, [], ◌∷◌, ◌++◌, length, map, Bool, true, false, ◌||◌, if◌then◌else◌, refl, sym, ap, subst, ◌∙◌, inl, inr, arith, append_assoc}
use Rattle.std.specs.Prelude.{not}
use Rattle.std.specs.List.{AllByRecursion, list_any}
use Rattle.tables.specs.Change.{Change, create, put, remove}
use Rattle.tables.specs.ChangeView.{change_of}
use Rattle.tables.specs.declared.change.Change.{Change as CodeChange}
use Rattle.unit_locks.specs.Claim.{Claim, IsClaim}
use Rattle.unit_locks.specs.Claims.{AreDistinct, In, added, all_added, has}
use Rattle.unit_locks.proofs.AddedClaims.{adds, has_in, in_has}
use Rattle.unit_records.specs.Fronts.{AreListed}
use Rattle.recovery.specs.Durable.{creates_none, is_claimed, names_claim}

-- ---- each once

in_behind : (c : Claim) (front cs : List Claim) → In c (front ++ c ∷ cs)
in_behind c [] cs = inl refl
in_behind c (x ∷ front) cs = inr (in_behind c front cs)

apart : (c : Claim) (front cs : List Claim) → AreDistinct (front ++ c ∷ cs) → In c front → ⊥
apart c [] cs d i = i
apart c (x ∷ front) cs d (inl e) = d.0 (subst (λ (y : Claim). In y (front ++ c ∷ cs)) e (in_behind c front cs))
apart c (x ∷ front) cs d (inr i) = apart c front cs d.1 i

has_not : (b : Bool) (c : Claim) (cs : List Claim) → has cs c ≡ b → (In c cs → ⊥) → has cs c ≡ false
has_not true c cs is none = absurd (none (has_in c cs is))
has_not false c cs is none = is

nothing_behind : (cs : List Claim) → cs ≡ cs ++ []
nothing_behind [] = refl
nothing_behind (c ∷ cs) = ap (λ (l : List Claim). c ∷ l) (nothing_behind cs)

all_same : (front cs : List Claim) → AreDistinct (front ++ cs) → all_added front cs ≡ front ++ cs
all_same front [] d = nothing_behind front
all_same front (c ∷ cs) d =
    let new = has_not (has front c) c front refl (apart c front cs d) in
    ap (λ (b : Bool). all_added (if b then front else front ++ c ∷ []) cs) new
    ∙ all_same (front ++ c ∷ []) cs (subst AreDistinct (sym (append_assoc front (c ∷ []) cs)) d)
    ∙ append_assoc front (c ∷ []) cs

pub same_once : (cs : List Claim) → all_added [] (all_added [] cs) ≡ all_added [] cs
same_once cs = all_same [] (all_added [] cs) (adds.once [] cs tt)

-- ---- each can be written

length_one : (cs : List Claim) (c : Claim) → length (cs ++ c ∷ []) ≡ length cs + 1
length_one [] c = omega arith
length_one (x ∷ cs) c = let rest = length_one cs c in omega arith

one_length : (b : Bool) (cs : List Claim) (c : Claim) → length (if b then cs else cs ++ c ∷ []) ≤ length cs + 1
one_length true cs c = omega arith
one_length false cs c = let more = length_one cs c in omega arith

all_length : (cs more : List Claim) → length (all_added cs more) ≤ length cs + length more
all_length cs [] = omega arith
all_length cs (c ∷ more) =
    let one = one_length (has cs c) cs c in
    let rest = all_length (added cs c) more in
    omega arith

claims_one : (cs : List Claim) (c : Claim) → AllByRecursion IsClaim cs → IsClaim c → AllByRecursion IsClaim (cs ++ c ∷ [])
claims_one [] c all one = (one, tt)
claims_one (x ∷ cs) c all one = (all.0, claims_one cs c all.1 one)

one_claims : (b : Bool) (cs : List Claim) (c : Claim) → AllByRecursion IsClaim cs → IsClaim c → AllByRecursion IsClaim (if b then cs else cs ++ c ∷ [])
one_claims true cs c all one = all
one_claims false cs c all one = claims_one cs c all one

all_claims : (cs more : List Claim) → AllByRecursion IsClaim cs → AllByRecursion IsClaim more → AllByRecursion IsClaim (all_added cs more)
all_claims cs [] all new = all
all_claims cs (c ∷ more) all new = all_claims (added cs c) more (one_claims (has cs c) cs c all new.0) new.1

pub good_once : (cs : List Claim) → AreListed IsClaim cs → AreListed IsClaim (all_added [] cs)
good_once cs good =
    let fewer = all_length [] cs in
    let few = good.0 in
    (omega arith, all_claims [] cs tt good.1)

-- ---- all names

one_of : (a b c : Bool) → (b ≡ true → c ≡ true) → (a || b) ≡ true → (a || c) ≡ true
one_of true b c more h = refl
one_of false b c more h = more h

pub claimed_once : (changes : List Change) (cs : List Claim) → is_claimed changes cs ≡ true → is_claimed changes (all_added [] cs) ≡ true
claimed_once changes cs h =
    one_of (creates_none changes) (has cs names_claim) (has (all_added [] cs) names_claim)
    (λ there. in_has names_claim (all_added [] cs) (adds.new names_claim [] cs (has_in names_claim cs there))) h

-- ---- changes of the code

abbrev pub creates : CodeChange → Bool
creates change = not (creates_none (change_of change ∷ []))

none_step : (x : Change) (xs : List Change) (b : Bool) → creates_none xs ≡ not b → creates_none (x ∷ xs) ≡ not (not (creates_none (x ∷ [])) || b)
none_step (create name schema) xs b rest = refl
none_step (put name row) xs b rest = rest
none_step (remove name key) xs b rest = rest

pub none_creates : (changes : List CodeChange) → creates_none (map change_of changes) ≡ not (list_any creates changes)
none_creates [] = refl
none_creates (x ∷ xs) = none_step (change_of x) (map change_of xs) (list_any creates xs) (none_creates xs)

pub claimed_then : (changes : List CodeChange) (cs : List Claim) (r : Bool) → r ≡ list_any creates changes → not r ≡ true → not r ≡ is_claimed (map change_of changes) cs
claimed_then changes cs r is h = h ∙ sym (ap (λ (b : Bool). b || has cs names_claim) (none_creates changes ∙ ap not (sym is) ∙ h))

pub claimed_else : (changes : List CodeChange) (cs : List Claim) (r n : Bool) → r ≡ list_any creates changes → not r ≡ false → n ≡ has cs names_claim → n ≡ is_claimed (map change_of changes) cs
claimed_else changes cs r n is h names = names ∙ sym (ap (λ (b : Bool). b || has cs names_claim) (none_creates changes ∙ ap not (sym is) ∙ h))
