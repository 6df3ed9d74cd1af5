-- Levels, entry by entry.
use Rattle.std.proofs.Common.{◌≡◌, ◌≤◌, ◌-◌, ℕ, List, [], ◌∷◌, length, take, drop, get_or, sym, ap, ◌∙◌, arith}
use Rattle.std.proofs.Math.Seq.{take-length}
use Rattle.drda_words.specs.Number.{word}
use Rattle.session_commands.specs.declared.session.Agreed.{Agreed}
use Rattle.session_commands.specs.Levels.{level_for, agreed_on, agreed_after}

abbrev pub at : List ℕ → ℕ → ℕ
at xs i = get_or xs i 0

pub agreed_four : (agreed : Agreed) (xs : List ℕ) → 4 ≤ length xs
    → agreed_after agreed xs ≡ agreed_after (agreed_on agreed (word (at xs 0) (at xs 1)) (level_for (word (at xs 0) (at xs 1)) (word (at xs 2) (at xs 3)))) (take (length xs - 4) (drop 4 xs))
agreed_four agreed (a ∷ b ∷ c ∷ d ∷ more) le =
    let whole : length (a ∷ b ∷ c ∷ d ∷ more) - 4 ≡ length more = omega arith in
    ap (λ (l : List ℕ). agreed_after (agreed_on agreed (word a b) (level_for (word a b) (word c d))) l)
    (sym (ap (λ n. take n more) whole ∙ take-length more))
agreed_four agreed (a ∷ b ∷ c ∷ []) le = absurd (omega arith)
agreed_four agreed (a ∷ b ∷ []) le = absurd (omega arith)
agreed_four agreed (a ∷ []) le = absurd (omega arith)
agreed_four agreed [] le = absurd (omega arith)
