-- Bytes that stand in front of what was appended.
use Rattle.std.proofs.Common.{◌≡◌, ℕ, List, [], ◌∷◌, ◌++◌, refl, ap, ◌∙◌}
use Rattle.std.proofs.Math.Seq.{take-append_seam}
use Rattle.row_values.specs.Bytes.{Keeps}

pub kept_more : (a b : List ℕ) → Keeps a (a ++ b)
kept_more a b = take-append_seam a b

pub kept_then : (a b c : List ℕ) → Keeps a b → Keeps b c → Keeps a c
kept_then [] b c one two = refl
kept_then (x ∷ a) [] c one two = absurd cc
kept_then (x ∷ a) (y ∷ b) [] one two = absurd cc
kept_then (x ∷ a) (y ∷ b) (z ∷ c) one two =
    let front : Keeps a b = cc in
    let further : Keeps b c = cc in
    let rest : Keeps a c = kept_then a b c front further in
    let first : z ≡ x = cc in
    ap (λ (l : List ℕ). z ∷ l) rest ∙ ap (λ (n : ℕ). n ∷ a) first
