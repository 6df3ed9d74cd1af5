-- The first claims of a unit are kept while the last ones are taken off, one by one.
use Rattle.std.proofs.Common.{◌≡◌, ◌≢◌, ◌<◌, ◌≤◌, ◌-◌, ℕ, zero, suc, List, [], ◌∷◌, refl, ap, ◌∙◌, length, take, arith, min, length-take}
use Rattle.std.specs.Global.{Vec}
use Rattle.unit_locks.specs.declared.place.Place.{Place}
use Rattle.unit_locks.specs.declared.holder.Holder.{Holder}
use Rattle.unit_locks.specs.Claim.{Claim}
use Rattle.unit_locks.specs.Index.{IsIndex}
use Rattle.unit_locks.specs.Lists.{list_at}

pub record Keeps (first units : List (Vec Claim)) (places : List (Vec Place)) (holders : List (Vec Holder)) (unit count : ℕ) : Type 0 where
  pub index : IsIndex units places holders
  pub kept : take count (list_at units unit) ≡ take count (list_at first unit)
  pub others : (other : ℕ) → other ≢ unit → list_at units other ≡ list_at first other

pub take_all : {X : Type 0} (xs : List X) (n : ℕ) → length xs ≤ n → take n xs ≡ xs
take_all [] zero le = refl
take_all [] (suc n) le = refl
take_all (x ∷ xs) zero le = absurd (omega (arith, le))
take_all (x ∷ xs) (suc n) le = ap (λ l. x ∷ l) (take_all xs n (omega (arith, le)))

pub take_take : {X : Type 0} (xs : List X) (n m : ℕ) → n ≤ m → take n (take m xs) ≡ take n xs
take_take [] zero zero le = refl
take_take [] zero (suc m) le = refl
take_take [] (suc n) zero le = refl
take_take [] (suc n) (suc m) le = refl
take_take (x ∷ xs) zero m le = refl
take_take (x ∷ xs) (suc n) zero le = absurd (omega (arith, le))
take_take (x ∷ xs) (suc n) (suc m) le = ap (λ l. x ∷ l) (take_take xs n m (omega (arith, le)))

pub shorter : {X : Type 0} (xs ys : List X) → ys ≡ take (length xs - 1) xs → 0 < length xs → length ys < length xs
shorter xs ys is some = let size : length ys ≡ min (length xs - 1) (length xs) = ap length is ∙ length-take (length xs - 1) xs in omega (arith, size, some)
