-- A row of places, one of which is changed.
use Rattle.std.proofs.Common.{◌≡◌, ◌<◌, ◌+◌, ℕ, zero, suc, Bool, true, false, List, [], ◌∷◌, ◌++◌, map, length, replicate, Option, Some, None, is_some, slice_get, slice_index_or, slice_set, if◌then◌else◌, ◌∙◌, ap, refl, sym, arith}
use Rattle.std.proofs.lemmas.List.{map-set}
use Rattle.drda_node.specs.declared.slot.Slot.{Slot}
use Rattle.std.specs.List.{list_all}
use Rattle.drda_node.specs.Machine.{Conversation, Machine}
use Rattle.drda_node.specs.Asking.{AskedCore}
use Rattle.session_commands.specs.Settings.{Settings}
use Rattle.drda_node.specs.Feeding.{shown_held}
use Rattle.drda_node.specs.Register.{shown}

module _ {X Y : Type 0} (view : X → Y) where
  pub view_at : (xs : List X) (i : ℕ) (d : X) (y : Y) → slice_get (map view xs) i ≡ Some y → view (slice_index_or xs i d) ≡ y
  view_at [] i d y is = absurd (cc is)
  view_at (x ∷ xs) zero d y is = cc is
  view_at (x ∷ xs) (suc i) d y is = view_at xs i d y is

  pub get_view : (xs : List X) (i : ℕ) (d : X) → i < length xs → slice_get (map view xs) i ≡ Some (view (slice_index_or xs i d))
  get_view [] i d below = absurd (omega arith)
  get_view (x ∷ xs) zero d below = refl
  get_view (x ∷ xs) (suc i) d below = get_view xs i d (omega arith)

  pub below_view : (xs : List X) (i : ℕ) (y : Y) → slice_get (map view xs) i ≡ Some y → i < length xs
  below_view [] i y is = absurd (cc is)
  below_view (x ∷ xs) zero y is = omega arith
  below_view (x ∷ xs) (suc i) y is = let below = below_view xs i y is in omega arith

  pub length_view : (xs : List X) → length (map view xs) ≡ length xs
  length_view [] = refl
  length_view (x ∷ xs) = let rest = length_view xs in omega arith

  pub view_push : (xs : List X) (x : X) → map view (xs ++ x ∷ []) ≡ map view xs ++ view x ∷ []
  view_push [] x = refl
  view_push (z ∷ xs) x = ap (λ ys. view z ∷ ys) (view_push xs x)

  pub view_set : (xs : List X) (i : ℕ) (x : X) (y : Y) → view x ≡ y → map view (slice_set xs i x) ≡ slice_set (map view xs) i y
  view_set xs i x y is = map-set view xs i x ∙ ap (λ z. slice_set (map view xs) i z) is

  -- a change that does not show
  pub view_kept : (xs : List X) (i : ℕ) (d x : X) → view x ≡ view (slice_index_or xs i d) → map view (slice_set xs i x) ≡ map view xs
  view_kept [] i d x is = refl
  view_kept (z ∷ xs) zero d x is = ap (λ y. y ∷ map view xs) is
  view_kept (z ∷ xs) (suc i) d x is = ap (λ ys. view z ∷ ys) (view_kept xs i d x is)

module _ {Y : Type 0} where
  pub get_below : (ys : List Y) (i : ℕ) (y : Y) → slice_get ys i ≡ Some y → i < length ys
  get_below [] i y is = absurd (cc is)
  get_below (x ∷ ys) zero y is = omega arith
  get_below (x ∷ ys) (suc i) y is = let below = get_below ys i y is in omega arith

  pub get_set : (ys : List Y) (i : ℕ) (y z : Y) → slice_get ys i ≡ Some y → slice_get (slice_set ys i z) i ≡ Some z
  get_set [] i y z is = absurd (cc is)
  get_set (x ∷ ys) zero y z is = refl
  get_set (x ∷ ys) (suc i) y z is = get_set ys i y z is

  pub one_value : (o : Option Y) (y z : Y) → o ≡ Some y → o ≡ Some z → y ≡ z
  one_value o y z p q = let both : Some y ≡ Some z = sym p ∙ q in cc both

  pub replicate_more : (n : ℕ) (y : Y) → replicate n y ++ y ∷ [] ≡ replicate (n + 1) y
  replicate_more zero y = refl
  replicate_more (suc n) y = let one : suc n + 1 ≡ suc (n + 1) = omega arith in ap (λ ys. y ∷ ys) (replicate_more n y) ∙ ap (λ m. replicate m y) (sym one)

-- ---- what a place shows

open_when : (b : Bool) (x y : Conversation) → (if b then Some x else None) ≡ Some y → b ≡ true
open_when true x y is = refl
open_when false x y is = absurd (cc is)

pub shows_open : (place : Slot) (c : Conversation) → shown place ≡ Some c → place.is_open ≡ true
shows_open place c is = open_when place.is_open (shown_held place.front) c is

pub open_shows : (place : Slot) → place.is_open ≡ true → shown place ≡ Some (shown_held place.front)
open_shows place is = ap (λ (b : Bool). if b then Some (shown_held place.front) else None) is

-- ---- full rows

pub full_when : (row : List (Option Conversation)) → ((k : ℕ) → k < length row → slice_get row k ≡ Some None → ⊥) → list_all is_some row ≡ true
full_when [] taken = refl
full_when (None ∷ row) taken = absurd (taken 0 (omega arith) refl)
full_when (Some c ∷ row) taken = full_when row (λ k below free. taken (suc k) (omega arith) free)

pub not_full : (row : List (Option Conversation)) (place : ℕ) → slice_get row place ≡ Some None → list_all is_some row ≡ true → ⊥
not_full [] place free full = cc free
not_full (None ∷ row) place free full = cc full
not_full (Some c ∷ row) zero free full = cc free
not_full (Some c ∷ row) (suc place) free full = not_full row place free full

-- a machine whose row, count and core are these
pub same_machine : (settings : Settings) (rows row : List (Option Conversation)) (givens given : ℕ) (cores core : AskedCore) → rows ≡ row → givens ≡ given → cores ≡ core
    → (let m : Machine = record { settings = settings; row = rows; given = givens; core = cores } in m) ≡ record { settings = settings; row = row; given = given; core = core }
same_machine settings rows row givens given cores core e f h = λ i. record { settings = settings; row = e i; given = f i; core = h i }
