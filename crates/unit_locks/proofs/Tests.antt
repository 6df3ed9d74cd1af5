-- Tests, and numbers that are equal or not.
use Rattle.std.proofs.Common.{◌==◌, ◌≡◌, ◌≢◌, ◌⊎◌, ℕ, Bool, true, false, ◌&&◌, ◌||◌, refl, inl, inr, eqb-true}
use Rattle.std.proofs.lemmas.Bool.{eq-eqb}

pub which : (b : Bool) → (b ≡ true) ⊎ (b ≡ false)
which true = inl refl
which false = inr refl

number_cases : (t : Bool) (a b : ℕ) → (a == b) ≡ t → (a ≡ b) ⊎ (a ≢ b)
number_cases true a b is = inl (eqb-true a b is)
number_cases false a b is = inr (λ e. let t = eq-eqb a b e in cc)

pub same_or : (a b : ℕ) → (a ≡ b) ⊎ (a ≢ b)
same_or a b = number_cases (a == b) a b refl

pub self : (a : ℕ) → (a == a) ≡ true
self a = eq-eqb a a refl

other_cases : (t : Bool) (a b : ℕ) → (a == b) ≡ t → a ≢ b → t ≡ false
other_cases true a b is other = absurd (other (eqb-true a b is))
other_cases false a b is other = refl

pub number_other : (a b : ℕ) → a ≢ b → (a == b) ≡ false
number_other a b not = other_cases (a == b) a b refl not

pub first_true : (a b : Bool) → (a && b) ≡ true → a ≡ true
first_true true b h = refl
first_true false b h = absurd cc

pub second_true : (a b : Bool) → (a && b) ≡ true → b ≡ true
second_true true b h = h
second_true false b h = absurd cc

pub or_true : (b : Bool) → (b || true) ≡ true
or_true true = refl
or_true false = refl

pub and_false : (b : Bool) → (b && false) ≡ false
and_false true = refl
and_false false = refl

pub left_false : (a b : Bool) → (a || b) ≡ false → a ≡ false
left_false true b h = absurd cc
left_false false b h = refl

pub right_false : (a b : Bool) → (a || b) ≡ false → b ≡ false
right_false true b h = absurd cc
right_false false b h = h
