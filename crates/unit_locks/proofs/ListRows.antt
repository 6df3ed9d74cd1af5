-- What becomes of the lists of a row where one is set, or an empty one is added.
use Rattle.std.proofs.Common.{◌≡◌, ◌≢◌, ◌<◌, ◌≤◌, ◌+◌, ℕ, zero, suc, List, [], ◌∷◌, ◌++◌, refl, sym, ap, ◌∙◌, length, arith, Option, Some, slice_get, slice_set, get_or, Bool, true}
use Rattle.std.specs.Global.{Vec}
use Rattle.unit_locks.specs.Lists.{list_at, or_empty, row_at}
use Rattle.unit_locks.specs.Index.{Finds}

pub list_set : {X : Type 0} (lists : List (Vec X)) (k : ℕ) (list : Vec X) → k < length lists → list_at (slice_set lists k list) k ≡ list.items
list_set [] k list lt = absurd (omega (arith, lt))
list_set (x ∷ lists) zero list lt = refl
list_set (x ∷ lists) (suc k) list lt = list_set lists k list (omega (arith, lt))

pub list_set_other : {X : Type 0} (lists : List (Vec X)) (j k : ℕ) (list : Vec X) → j ≢ k → list_at (slice_set lists k list) j ≡ list_at lists j
list_set_other [] j k list other = refl
list_set_other (x ∷ lists) zero zero list other = absurd (other refl)
list_set_other (x ∷ lists) zero (suc k) list other = refl
list_set_other (x ∷ lists) (suc j) zero list other = refl
list_set_other (x ∷ lists) (suc j) (suc k) list other = list_set_other lists j k list (λ e. other (ap suc e))

pub list_grown : {X : Type 0} (lists : List (Vec X)) (list : Vec X) (k : ℕ) → list.items ≡ [] → list_at (lists ++ list ∷ []) k ≡ list_at lists k
list_grown [] list zero is = is
list_grown [] list (suc k) is = refl
list_grown (x ∷ lists) list zero is = refl
list_grown (x ∷ lists) list (suc k) is = list_grown lists list k is

pub list_is : {X : Type 0} (lists : List (Vec X)) (k : ℕ) (d : Vec X) → k < length lists → list_at lists k ≡ (get_or lists k d).items
list_is [] k d lt = absurd (omega (arith, lt))
list_is (x ∷ lists) zero d lt = refl
list_is (x ∷ lists) (suc k) d lt = list_is lists k d (omega (arith, lt))

pub list_past : {X : Type 0} (lists : List (Vec X)) (k : ℕ) → length lists ≤ k → list_at lists k ≡ []
list_past [] k le = refl
list_past (x ∷ lists) zero le = absurd (omega (arith, le))
list_past (x ∷ lists) (suc k) le = list_past lists k (omega (arith, le))

pub list_inside : {X : Type 0} (lists : List (Vec X)) (k i : ℕ) → i < length (list_at lists k) → k < length lists
list_inside [] k i lt = absurd (omega (arith, lt))
list_inside (x ∷ lists) zero i lt = omega arith
list_inside (x ∷ lists) (suc k) i lt = let below = list_inside lists k i lt in omega (arith, below)

get_found : {X : Type 0} (xs : List X) (i : ℕ) (x : X) → i < length xs → x ≡ get_or xs i x → slice_get xs i ≡ Some x
get_found [] i x lt is = absurd (omega (arith, lt))
get_found (y ∷ xs) zero x lt is = ap (λ z. Some z) (sym is)
get_found (y ∷ xs) (suc i) x lt is = get_found xs i x (omega (arith, lt)) is

pub found_item : {X : Type 0} (test : X → Bool) (unit_of : X → ℕ) (xs : List X) (i : ℕ) (x : X) → i < length xs → x ≡ get_or xs i x → test x ≡ true → Finds test unit_of xs (unit_of x)
found_item test unit_of xs i x lt is passes = record { at = i; item = x; is = get_found xs i x lt is; passes = passes; unit_is = refl }

pub no_items : {X : Type 0} (xs : List X) → length xs ≡ 0 → xs ≡ []
no_items [] is = refl
no_items (x ∷ xs) is = absurd (omega (arith, is))
