-- What a list has after claims were added to it.
use Rattle.std.proofs.Common.{◌≡◌, ◌⊎◌, ℕ, Bool, true, false, ◌||◌, List, [], ◌∷◌, ◌++◌, if◌then◌else◌, refl, sym, ap, subst, ◌∙◌, inl, inr}
use Rattle.std.specs.List.{list_any}
use Rattle.std.specs.Str.{bytes_eq}
use Rattle.drda_words.proofs.Precedes.{bytes_eq-refl, same_bytes}
use Rattle.unit_locks.specs.Claim.{Claim, claim_bytes, claim_of}
use Rattle.unit_locks.specs.Claims.{AddsClaims, AreDistinct, In, added, all_added, has, is_same}
use Rattle.unit_locks.proofs.Bytes.{claim_back}

pub same_is : (c d : Claim) → is_same c d ≡ true → c ≡ d
same_is c d h = sym (claim_back c) ∙ ap claim_of (same_bytes (claim_bytes c) (claim_bytes d) h) ∙ claim_back d

pub same_self : (c : Claim) → is_same c c ≡ true
same_self c = bytes_eq-refl (claim_bytes c)

has_cases : (b : Bool) (c d : Claim) (cs : List Claim) → is_same c d ≡ b → (b || has cs c) ≡ true → (has cs c ≡ true → In c cs) → In c (d ∷ cs)
has_cases true c d cs is h rest = inl (same_is c d is)
has_cases false c d cs is h rest = inr (rest h)

pub has_in : (c : Claim) (cs : List Claim) → has cs c ≡ true → In c cs
has_in c [] h = absurd cc
has_in c (d ∷ cs) h = has_cases (is_same c d) c d cs refl h (has_in c cs)

true_or : (b : Bool) → (b || true) ≡ true
true_or true = refl
true_or false = refl

pub in_has : (c : Claim) (cs : List Claim) → In c cs → has cs c ≡ true
in_has c [] i = absurd i
in_has c (d ∷ cs) (inl e) =
    let first : is_same c d ≡ true = subst (λ (x : Claim). is_same c x ≡ true) e (same_self c) in
    ap (λ (b : Bool). b || has cs c) first
in_has c (d ∷ cs) (inr i) = ap (λ (b : Bool). is_same c d || b) (in_has c cs i) ∙ true_or (is_same c d)

in_left : (c : Claim) (xs ys : List Claim) → In c xs → In c (xs ++ ys)
in_left c [] ys i = absurd i
in_left c (x ∷ xs) ys (inl e) = inl e
in_left c (x ∷ xs) ys (inr i) = inr (in_left c xs ys i)

in_right : (c : Claim) (xs ys : List Claim) → In c ys → In c (xs ++ ys)
in_right c [] ys i = i
in_right c (x ∷ xs) ys i = inr (in_right c xs ys i)

either_right : {A B C : Type 0} → (A ⊎ B) → (C ⊎ A) ⊎ B
either_right (inl a) = inl (inr a)
either_right (inr b) = inr b

in_either : (c : Claim) (xs ys : List Claim) → In c (xs ++ ys) → In c xs ⊎ In c ys
in_either c [] ys i = inr i
in_either c (x ∷ xs) ys (inl e) = inl (inl e)
in_either c (x ∷ xs) ys (inr i) = either_right (in_either c xs ys i)

old_cases : (b : Bool) (x c : Claim) (cs : List Claim) → In x cs → In x (if b then cs else cs ++ c ∷ [])
old_cases true x c cs i = i
old_cases false x c cs i = in_left x cs (c ∷ []) i

added_old : (x c : Claim) (cs : List Claim) → In x cs → In x (added cs c)
added_old x c cs i = old_cases (has cs c) x c cs i

new_cases : (b : Bool) (c : Claim) (cs : List Claim) → has cs c ≡ b → In c (if b then cs else cs ++ c ∷ [])
new_cases true c cs is = has_in c cs is
new_cases false c cs is = in_right c cs (c ∷ []) (inl refl)

added_new : (c : Claim) (cs : List Claim) → In c (added cs c)
added_new c cs = new_cases (has cs c) c cs refl

only_one : (x c : Claim) (cs : List Claim) → In x cs ⊎ In x (c ∷ []) → In x cs ⊎ (x ≡ c)
only_one x c cs (inl i) = inl i
only_one x c cs (inr (inl e)) = inr e
only_one x c cs (inr (inr i)) = absurd i

only_cases : (b : Bool) (x c : Claim) (cs : List Claim) → In x (if b then cs else cs ++ c ∷ []) → In x cs ⊎ (x ≡ c)
only_cases true x c cs i = inl i
only_cases false x c cs i = only_one x c cs (in_either x cs (c ∷ []) i)

added_only : (x c : Claim) (cs : List Claim) → In x (added cs c) → In x cs ⊎ (x ≡ c)
added_only x c cs i = only_cases (has cs c) x c cs i

not_in : (c : Claim) (cs : List Claim) → has cs c ≡ false → In c cs → ⊥
not_in c cs h i = let found = in_has c cs i in cc

another : (x c : Claim) (cs : List Claim) → (In x cs → ⊥) → (c ≡ x → ⊥) → In x cs ⊎ (x ≡ c) → ⊥
another x c cs old new (inl i) = old i
another x c cs old new (inr e) = new (sym e)

distinct_more : (c : Claim) (cs : List Claim) → AreDistinct cs → (In c cs → ⊥) → AreDistinct (cs ++ c ∷ [])
distinct_more c [] d not = (λ i. i, tt)
distinct_more c (x ∷ cs) d not = (λ i. another x c cs d.0 (λ e. not (inl e)) (only_one x c cs (in_either x cs (c ∷ []) i)), distinct_more c cs d.1 (λ i. not (inr i)))

once_cases : (b : Bool) (c : Claim) (cs : List Claim) → has cs c ≡ b → AreDistinct cs → AreDistinct (if b then cs else cs ++ c ∷ [])
once_cases true c cs is d = d
once_cases false c cs is d = distinct_more c cs d (not_in c cs is)

-- ---- the claims of a statement

all_old : (x : Claim) (cs more : List Claim) → In x cs → In x (all_added cs more)
all_old x cs [] i = i
all_old x cs (c ∷ more) i = all_old x (added cs c) more (added_old x c cs i)

all_new : (x : Claim) (cs more : List Claim) → In x more → In x (all_added cs more)
all_new x cs [] i = absurd i
all_new x cs (c ∷ more) (inl e) = all_old x (added cs c) more (subst (λ (y : Claim). In y (added cs c)) (sym e) (added_new c cs))
all_new x cs (c ∷ more) (inr i) = all_new x (added cs c) more i

from_first : (x c : Claim) (cs more : List Claim) → (In x cs ⊎ (x ≡ c)) → In x cs ⊎ In x (c ∷ more)
from_first x c cs more (inl i) = inl i
from_first x c cs more (inr e) = inr (inl e)

from_rest : (x c : Claim) (cs more : List Claim) → In x (added cs c) ⊎ In x more → In x cs ⊎ In x (c ∷ more)
from_rest x c cs more (inl i) = from_first x c cs more (added_only x c cs i)
from_rest x c cs more (inr i) = inr (inr i)

all_only : (x : Claim) (cs more : List Claim) → In x (all_added cs more) → In x cs ⊎ In x more
all_only x cs [] i = inl i
all_only x cs (c ∷ more) i = from_rest x c cs more (all_only x (added cs c) more i)

all_once : (cs more : List Claim) → AreDistinct cs → AreDistinct (all_added cs more)
all_once cs [] d = d
all_once cs (c ∷ more) d = all_once (added cs c) more (once_cases (has cs c) c cs refl d)

pub adds : AddsClaims
adds = record { old = all_old; new = all_new; only = all_only; once = all_once; tells = λ c claims h. has_in c claims h }
