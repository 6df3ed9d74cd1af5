-- A line with a carriage return at its end, and without.
use Rattle.std.proofs.Common.{◌≡◌, ◌≢◌, refl, ap, eqb-true, ℕ, Bool, true, false, ◌==◌, List, [], ◌∷◌, ◌++◌, if◌then◌else◌}
use Rattle.command_line.specs.Job.{without_return}

pub stripped : (line : List ℕ) → without_return (line ++ 13 ∷ []) ≡ line
unfolding without_return
stripped [] = refl
stripped (b ∷ []) = refl
stripped (b ∷ c ∷ cs) = ap (λ (l : List ℕ). b ∷ l) (stripped (c ∷ cs))

last : (b : ℕ) (is : Bool) → (is ≡ true → b ≡ 13) → ((front : List ℕ) → b ∷ [] ≢ front ++ 13 ∷ []) → (if is then [] else b ∷ []) ≡ b ∷ []
last b false decides none = refl
last b true decides none = absurd (none [] (ap (λ (n : ℕ). n ∷ []) (decides refl)))

pub plain : (line : List ℕ) → ((front : List ℕ) → line ≢ front ++ 13 ∷ []) → without_return line ≡ line
unfolding without_return
plain [] none = refl
plain (b ∷ []) none = last b (b == 13) (eqb-true b 13) none
plain (b ∷ c ∷ cs) none = ap (λ (l : List ℕ). b ∷ l) (plain (c ∷ cs) (λ front is. none (b ∷ front) (ap (λ (l : List ℕ). b ∷ l) is)))
