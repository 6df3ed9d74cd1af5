-- Whether a claim clashes with one of the other units, by the numbers of the units.
use Rattle.std.proofs.Common.{◌≡◌, ⊎_elim, ℕ, zero, suc, Bool, true, false, ◌==◌, ◌||◌, List, [], ◌∷◌, ◌++◌, get_or, refl, sym, ◌∙◌, ap, subst, eq-eqb}
use Rattle.std.specs.Prelude.{if◌then◌else◌}
use Rattle.std.specs.List.{list_any}
use Rattle.std.proofs.lemmas.List.Folds.{list_any-append}
use Rattle.unit_locks.specs.Claim.{Claim}
use Rattle.unit_locks.specs.Claims.{ClashesWith, ClashesWithNone, claims_of}
use Rattle.unit_locks.specs.Clash.{clash}
use Rattle.core_model.specs.Units.{Owner, others, same_owner}
use Rattle.core_model.specs.Laws.{AreListed, ComesFirst}
use Rattle.core_model.proofs.Owners.{both, which}
use Rattle.core_model.proofs.Listing.{not_first}
use Rattle.unit_table.specs.declared.entry.Entry.{Entry}
use Rattle.unit_table.specs.Owner.{plain_owner}
use Rattle.unit_table.specs.Table.{AreKept, AreNumbered, IsAt, IsGapFor, IsNumberOf, held, is_given}
use Rattle.unit_table.proofs.Rows.{first_is, gap_first}
use Rattle.unit_table.proofs.Numbers.{not_behind, not_here, other_number, other_than, given_at, not_equal, same_number}

-- ---- an owner's number

-- who comes before all that are listed, and whose number none of them has
number_of_none : (claims : List (List Claim)) (o : Owner) (n : ℕ) (es : List Entry) → ComesFirst o (held claims es) → is_given n es ≡ false → IsNumberOf o n es
number_of_none claims o n [] first h = tt
number_of_none claims o n (e ∷ es) first h =
    (not_first o (plain_owner e.owner) first.0 ∙ sym (not_here (e.number == n) (is_given n es) h), number_of_none claims o n es first.1 (not_behind (e.number == n) (is_given n es) h))

pub number_at : (claims : List (List Claim)) (o : Owner) (es : List Entry) (i : ℕ) (d : Entry) → AreListed (held claims es) → AreNumbered es → IsAt o es i → IsNumberOf o (get_or es i d).number es
number_at claims o [] i d listed numbered at = absurd at
number_at claims o (e ∷ es) zero d listed numbered at =
    (at ∙ sym (eq-eqb e.number e.number refl), number_of_none claims o e.number es (first_is o (plain_owner e.owner) (held claims es) at listed.1) numbered.0)
number_at claims o (e ∷ es) (suc i) d listed numbered at =
    let n = (get_or es i d).number in
    (at.0 ∙ sym (not_equal e.number n (other_than e.number n es numbered.0 (given_at o es i d at.2))), number_at claims o es i d listed.2 numbered.1 at.2)

pub number_in_gap : (claims : List (List Claim)) (o : Owner) (n : ℕ) (es : List Entry) (i : ℕ) → AreListed (held claims es) → is_given n es ≡ false → IsGapFor o es i → IsNumberOf o n es
number_in_gap claims o n [] i listed h at = tt
number_in_gap claims o n (e ∷ es) zero listed h at = number_of_none claims o n (e ∷ es) (gap_first claims o (e ∷ es) listed at) h
number_in_gap claims o n (e ∷ es) (suc i) listed h at =
    (at.0 ∙ sym (not_here (e.number == n) (is_given n es) h), number_in_gap claims o n es i listed.2 (not_behind (e.number == n) (is_given n es) h) at.2)

-- ---- the claims of the others

module _ (claims : List (List Claim)) (o : Owner) (n : ℕ) (c : Claim) where
  abbrev here_or : Bool → Entry → List Entry → List Claim
  here_or b e es = if b then others o (held claims es) else claims_of claims e.number ++ others o (held claims es)

  none : (es : List Entry) → IsNumberOf o n es → ClashesWithNone (claims_of claims) n c → list_any (clash c) (others o (held claims es)) ≡ false
  none [] is h = refl
  none (e ∷ es) is h =
      let rest = none es is.1 h in
      ⊎_elim
      (λ so. ap (λ b. list_any (clash c) (here_or b e es)) so ∙ rest)
      (λ ne.
      ap (λ b. list_any (clash c) (here_or b e es)) ne
      ∙ list_any-append (clash c) (claims_of claims e.number) (others o (held claims es))
      ∙ ap (λ b. b || list_any (clash c) (others o (held claims es))) (h e.number (other_number e.number n (sym is.0 ∙ ne)))
      ∙ rest)
      (which (same_owner o (plain_owner e.owner)))

  or_true : (b : Bool) → (b || true) ≡ true
  or_true true = refl
  or_true false = refl

  some : (es : List Entry) (m : ℕ) → IsNumberOf o n es → is_given m es ≡ true → ClashesWith (claims_of claims) n c m → list_any (clash c) (others o (held claims es)) ≡ true
  some [] m is given h = both false given refl
  some (e ∷ es) m is given h =
      let later : is_given m es ≡ true → list_any (clash c) (others o (held claims es)) ≡ true = λ g. some es m is.1 g h in
      ⊎_elim
      (λ here.
      let same : e.number ≡ m = same_number e.number m here in
      let ne : same_owner o (plain_owner e.owner) ≡ false = is.0 ∙ subst (λ (x : ℕ). (x == n) ≡ false) (sym same) (not_equal m n h.another) in
      ap (λ b. list_any (clash c) (here_or b e es)) ne
      ∙ list_any-append (clash c) (claims_of claims e.number) (others o (held claims es))
      ∙ ap (λ b. b || list_any (clash c) (others o (held claims es))) (ap (λ x. list_any (clash c) (claims_of claims x)) same ∙ h.clashes))
      (λ n1.
      let rest = later (sym (ap (λ b. b || is_given m es) n1) ∙ given) in
      ⊎_elim
      (λ so. ap (λ b. list_any (clash c) (here_or b e es)) so ∙ rest)
      (λ ne.
      ap (λ b. list_any (clash c) (here_or b e es)) ne
      ∙ list_any-append (clash c) (claims_of claims e.number) (others o (held claims es))
      ∙ ap (λ b. list_any (clash c) (claims_of claims e.number) || b) rest
      ∙ or_true (list_any (clash c) (claims_of claims e.number)))
      (which (same_owner o (plain_owner e.owner))))
      (which (e.number == m))

  -- a number with claims is given
  claiming : (es : List Entry) (m : ℕ) → AreKept es claims → list_any (clash c) (claims_of claims m) ≡ true → is_given m es ≡ true
  claiming es m kept h =
      ⊎_elim (λ so. so) (λ f. both (list_any (clash c) (claims_of claims m)) h (ap (list_any (clash c)) (kept.free m f))) (which (is_given m es))

  pub clashes_with_none : (es : List Entry) → IsNumberOf o n es → ClashesWithNone (claims_of claims) n c → false ≡ list_any (clash c) (others o (held claims es))
  clashes_with_none es is h = sym (none es is h)

  pub clashes_with_one : (es : List Entry) (m : ℕ) → AreKept es claims → IsNumberOf o n es → ClashesWith (claims_of claims) n c m → true ≡ list_any (clash c) (others o (held claims es))
  clashes_with_one es m kept is h = sym (some es m is (claiming es m kept h.clashes) h)
