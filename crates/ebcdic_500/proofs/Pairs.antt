-- The code's tables are the standard's, and each character of it stands at one place. All of it is
-- computed, over the bytes and over the characters of ASCII; past ASCII no character has a byte.
use Rattle.std.proofs.Common.{◌≡◌, ℕ, zero, suc, ◌<◌, ◌≤◌, Bool, true, false, cond, eqb, ◌&&◌, Option, Some, None, List, [], ◌∷◌, refl, ap, subst, arith, inl, inr, get_or, sym}
use Rattle.std.specs.Prelude.{◌==◌, if◌then◌else◌, nat_eq, nat_lt}
use Rattle.std.specs.Map.{lookup}
use Rattle.std.proofs.lemmas.Bool.{eqb-true, eqb-false, ltb-true, cases_lt}
use Rattle.ebcdic_500.specs.declared.table.TheConstants.{BYTES, CHARACTERS, NONE, NO_BYTE}
use Rattle.ebcdic_500.specs.CodePage.{char_for, byte_for, characters_with_bytes}

-- the test passes below n
abbrev passes_below : ℕ → (ℕ → Bool) → Bool
passes_below zero test = true
passes_below (suc n) test = test n && passes_below n test

and_true : (a b : Bool) → (a && b) ≡ true → (a ≡ true) × (b ≡ true)
and_true true b e = (refl, e)
and_true false b e = absurd cc

passes_at : (n : ℕ) (test : ℕ → Bool) → passes_below n test ≡ true → (k : ℕ) → k < n → test k ≡ true
passes_at zero test e k lt = absurd (omega arith)
passes_at (suc n) test e k lt =
    let both = and_true (test n) (passes_below n test) e in
    elim (cases_lt k n) [
      | inl below ↦ passes_at n test both.1 k below
      | inr above ↦ let same : n ≡ k = omega arith in subst (λ m. test m ≡ true) same both.0
    ]

-- two answers are the same
same : Option ℕ → Option ℕ → Bool
same None None = true
same None (Some y) = false
same (Some x) None = false
same (Some x) (Some y) = x == y

is_same : (a b : Option ℕ) → same a b ≡ true → a ≡ b
unfolding same
is_same None None e = refl
is_same None (Some y) e = absurd cc
is_same (Some x) None e = absurd cc
is_same (Some x) (Some y) e = ap (λ (n : ℕ). Some n) (eqb-true x y e)

-- what stands at a place of a table, none where the mark stands
abbrev pub stands_at : List ℕ → ℕ → ℕ → Option ℕ
stands_at table mark place = let x = get_or table place 0 in if x == mark then None else Some x

all_characters : passes_below 256 (λ b. same (stands_at CHARACTERS NONE b) (char_for b)) ≡ true
unfolding same char_for
all_characters = refl

pub character_stands : (b : ℕ) → b < 256 → stands_at CHARACTERS NONE b ≡ char_for b
character_stands b lt =
    is_same (stands_at CHARACTERS NONE b) (char_for b) (passes_at 256 (λ b. same (stands_at CHARACTERS NONE b) (char_for b)) all_characters b lt)

all_bytes : passes_below 128 (λ c. same (stands_at BYTES NO_BYTE c) (byte_for c)) ≡ true
unfolding same byte_for
all_bytes = refl

pub byte_stands : (c : ℕ) → c < 128 → stands_at BYTES NO_BYTE c ≡ byte_for c
byte_stands c lt =
    is_same (stands_at BYTES NO_BYTE c) (byte_for c) (passes_at 128 (λ c. same (stands_at BYTES NO_BYTE c) (byte_for c)) all_bytes c lt)

-- the keys are all below n
abbrev keys_below : ℕ → List (ℕ × ℕ) → Bool
keys_below n [] = true
keys_below n (pair ∷ pairs) = nat_lt pair.0 n && keys_below n pairs

absent_by : (c n : ℕ) (pair : ℕ × ℕ) (pairs : List (ℕ × ℕ)) (test : Bool) → test ≡ nat_eq c pair.0 → nat_lt pair.0 n ≡ true → n ≤ c
    → lookup (nat_eq c) pairs ≡ None → cond test (Some pair.1) (lookup (nat_eq c) pairs) ≡ None
absent_by c n pair pairs true t below above rest =
    let found : c ≡ pair.0 = eqb-true c pair.0 (sym t) in
    let less : pair.0 < n = ltb-true pair.0 n below in
    absurd (omega (arith, found, less, above))
absent_by c n pair pairs false t below above rest = rest

absent : (c n : ℕ) (pairs : List (ℕ × ℕ)) → keys_below n pairs ≡ true → n ≤ c → lookup (nat_eq c) pairs ≡ None
absent c n [] below above = refl
absent c n (pair ∷ pairs) below above =
    let both = and_true (nat_lt pair.0 n) (keys_below n pairs) below in
    absent_by c n pair pairs (nat_eq c pair.0) refl both.0 above (absent c n pairs both.1 above)

all_ascii : keys_below 128 characters_with_bytes ≡ true
all_ascii = refl

pub past_ascii : (c : ℕ) → 128 ≤ c → byte_for c ≡ None
unfolding byte_for
past_ascii c above = absent c 128 characters_with_bytes all_ascii above

-- what is answered leads back to where it came from
leads_back : (ℕ → Option ℕ) → Option ℕ → ℕ → Bool
leads_back back None x = true
leads_back back (Some y) x = same (back y) (Some x)

from_leads : (back : ℕ → Option ℕ) (o : Option ℕ) (x y : ℕ) → leads_back back o x ≡ true → o ≡ Some y → back y ≡ Some x
unfolding leads_back
from_leads back None x y e h = absurd cc
from_leads back (Some z) x y e h =
    let here : z ≡ y = cc in
    subst (λ n. back n ≡ Some x) here (is_same (back z) (Some x) e)

bytes_lead_back : passes_below 256 (λ b. leads_back byte_for (char_for b) b) ≡ true
unfolding leads_back same char_for byte_for
bytes_lead_back = refl

pub back : (b c : ℕ) → b < 256 → char_for b ≡ Some c → byte_for c ≡ Some b
back b c lt e = from_leads byte_for (char_for b) b c (passes_at 256 (λ b. leads_back byte_for (char_for b) b) bytes_lead_back b lt) e

characters_lead_back : passes_below 128 (λ c. leads_back char_for (byte_for c) c) ≡ true
unfolding leads_back same char_for byte_for
characters_lead_back = refl

none_some : (o : Option ℕ) (b : ℕ) → o ≡ None → o ≡ Some b → ⊥
none_some o b e h = absurd cc

pub forth : (b c : ℕ) → byte_for c ≡ Some b → char_for b ≡ Some c
forth b c e =
    elim (cases_lt c 128) [
      | inl below ↦ from_leads char_for (byte_for c) c b (passes_at 128 (λ c. leads_back char_for (byte_for c) c) characters_lead_back c below) e
      | inr above ↦ absurd (none_some (byte_for c) b (past_ascii c above) e)
    ]

-- what a look at a place answers
marked_by : (x mark : ℕ) (test : Bool) (o : Option ℕ) → test ≡ eqb x mark → x ≡ mark → cond test None (Some x) ≡ o → None ≡ o
marked_by x mark true o t e h = h
marked_by x mark false o t e h = absurd (eqb-false x mark (sym t) e)

pub marked : (table : List ℕ) (mark place : ℕ) (o : Option ℕ) → get_or table place 0 ≡ mark → stands_at table mark place ≡ o → None ≡ o
marked table mark place o e h = marked_by (get_or table place 0) mark (eqb (get_or table place 0) mark) o refl e h

unmarked_by : (x mark : ℕ) (test : Bool) (o : Option ℕ) → test ≡ eqb x mark → (x ≡ mark → ⊥) → cond test None (Some x) ≡ o → Some x ≡ o
unmarked_by x mark true o t e h = absurd (e (eqb-true x mark (sym t)))
unmarked_by x mark false o t e h = h

pub unmarked : (table : List ℕ) (mark place : ℕ) (o : Option ℕ) → (get_or table place 0 ≡ mark → ⊥) → stands_at table mark place ≡ o → Some (get_or table place 0) ≡ o
unmarked table mark place o e h = unmarked_by (get_or table place 0) mark (eqb (get_or table place 0) mark) o refl e h
