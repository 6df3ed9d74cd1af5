-- The order of byte lists: the first byte that differs decides, and else the shorter list comes first.
use Rattle.std.specs.Prelude.{◌≡◌, ◌⊎◌, ℕ, Bool, true, false, List, [], ◌∷◌, ◌&&◌, IsTrue}
use Rattle.std.specs.List.{list_all}
use Rattle.std.specs.Ordering.{nat_cmp, is_lt}
use Rattle.std.specs.declared.cmp.Ordering.{Ordering}
use Rattle.std.specs.Cmp.Lexicographic.{slice_cmp}

-- a comes before b
abbrev pub precedes : List ℕ → List ℕ → Bool
precedes a b = is_lt (slice_cmp nat_cmp a b)

-- each item's key comes before the next one's
abbrev pub IsRising : {A : Type 0} → (A → List ℕ) → List A → Type 0
IsRising key [] = Unit {0}
IsRising key (x ∷ []) = Unit {0}
IsRising key (x ∷ y ∷ ys) = IsTrue (precedes (key x) (key y)) × IsRising key (y ∷ ys)

-- by any order of keys: each comes before all later ones
abbrev pub rises : {A : Type 0} → (A → A → Ordering) → List A → Bool
rises order [] = true
rises order (x ∷ xs) = list_all (λ later. is_lt (order x later)) xs && rises order xs

-- the words that a reader expects of an order
pub record IsStrictOrder (before : List ℕ → List ℕ → Bool) : Type 0 where
  pub never_itself : (a : List ℕ) → before a a ≡ false
  pub goes_on : (a b c : List ℕ) → before a b ≡ true → before b c ≡ true → before a c ≡ true
  pub one_way : (a b : List ℕ) → (before a b ≡ true) ⊎ ((before b a ≡ true) ⊎ (a ≡ b))
