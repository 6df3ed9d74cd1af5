-- WITH and HOLD among words, one after the other.
use Rattle.std.proofs.Common.{◌≡◌, ℕ, ◌+◌, ◌<◌, Bool, true, false, ◌&&◌, ◌||◌, List, [], ◌∷◌, length, drop, get_or, codes, eqb-true, arith, refl, sym, ap, ◌∙◌}
use Rattle.std.specs.Prelude.{◌==◌}
use Rattle.std.specs.List.{filter}
use Rattle.std.specs.Str.{str_eq_ignore_ascii_case}
use Rattle.std.proofs.lemmas.List.{at_drop_more}
use Rattle.command_kit.specs.Text.{begins_with_hold, has_with_hold, is_word}

-- whether WITH and HOLD stand among these parts, or HOLD first where WITH stands before them
abbrev pub found_behind : Bool → List (List ℕ) → Bool
found_behind is_behind parts = (is_behind && begins_with_hold (filter is_word parts)) || has_with_hold (filter is_word parts)

-- this part and those behind it
pub at_part : (b : Bool) (parts : List (List ℕ)) (n : ℕ) (part : List ℕ) → (n < length parts) × (part ≡ get_or parts n part) → found_behind b (drop n parts) ≡ found_behind b (part ∷ drop (n + 1) parts)
at_part b parts n part h = at_drop_more (found_behind b) parts n part h.0 ∙ ap (λ w. found_behind b (w ∷ drop (n + 1) parts)) (sym h.1)

pub past_empty : (b : Bool) (part : List ℕ) (parts : List (List ℕ)) → (length part == 0) ≡ true → found_behind b (part ∷ parts) ≡ found_behind b parts
past_empty b [] parts h = refl
past_empty b (x ∷ xs) parts h = let none : length (x ∷ xs) ≡ 0 = eqb-true (length (x ∷ xs)) 0 h in absurd (omega (arith, none))

pub past_word : (b : Bool) (part : List ℕ) (parts : List (List ℕ)) → (length part == 0) ≡ false → (b && str_eq_ignore_ascii_case part (codes "HOLD")) ≡ false
    → found_behind b (part ∷ parts) ≡ found_behind (str_eq_ignore_ascii_case part (codes "WITH")) parts
past_word b [] parts some h = absurd cc
past_word b (x ∷ xs) parts some h = ap (λ c. c || found_behind (str_eq_ignore_ascii_case (x ∷ xs) (codes "WITH")) parts) h

pub at_hold : (b : Bool) (part : List ℕ) (parts : List (List ℕ)) → (length part == 0) ≡ false → (b && str_eq_ignore_ascii_case part (codes "HOLD")) ≡ true
    → found_behind b (part ∷ parts) ≡ true
at_hold b [] parts some h = absurd cc
at_hold b (x ∷ xs) parts some h = ap (λ c. c || found_behind (str_eq_ignore_ascii_case (x ∷ xs) (codes "WITH")) parts) h

pub at_end : (b : Bool) → found_behind b [] ≡ false
at_end true = refl
at_end false = refl
