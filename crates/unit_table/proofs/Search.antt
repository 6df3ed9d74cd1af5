-- The search for the place of an owner's unit, from the front on.
use Rattle.std.proofs.Common.{◌≡◌, ℕ, suc, ◌+◌, ◌≤◌, false, true, zero, List, [], ◌∷◌, length, drop, get_or, refl, sym, ◌∙◌, ap, subst, arith, ◌<◌}
use Rattle.core_model.specs.Units.{Owner, comes_before, same_owner}
use Rattle.unit_table.specs.declared.entry.Entry.{Entry}
use Rattle.unit_table.specs.Owner.{plain_owner}
use Rattle.unit_table.specs.Table.{IsAt, IsGapFor}

-- what is found in what is left is found so far behind the front
pub record IsSought (o : Owner) (all left : List Entry) (at : ℕ) : Type 0 where
  pub counted : at + length left ≡ length all
  pub there : (i : ℕ) → IsAt o left i → IsAt o all (at + i)
  pub gap : (i : ℕ) → IsGapFor o left i → IsGapFor o all (at + i)

pub at_front : (o : Owner) (es : List Entry) → IsSought o es es 0
at_front o es = record {
  counted = omega arith;
  there = λ i h. let e : i ≡ 0 + i = omega arith in subst (λ (j : ℕ). IsAt o es j) e h;
  gap = λ i h. let e : i ≡ 0 + i = omega arith in subst (λ (j : ℕ). IsGapFor o es j) e h;
}

module _ (o : Owner) (all : List Entry) (e : Entry) (rest : List Entry) (at : ℕ) (is : IsSought o all (e ∷ rest) at) where
  pub one_on : same_owner o (plain_owner e.owner) ≡ false → comes_before o (plain_owner e.owner) ≡ false → IsSought o all rest (at + 1)
  one_on ne n = record {
    counted = omega (arith, is.counted);
    there = λ i h. let q : at + suc i ≡ at + 1 + i = omega arith in subst (λ (j : ℕ). IsAt o all j) q (is.there (suc i) (ne, n, h));
    gap = λ i h. let q : at + suc i ≡ at + 1 + i = omega arith in subst (λ (j : ℕ). IsGapFor o all j) q (is.gap (suc i) (ne, n, h));
  }

  pub found_here : same_owner o (plain_owner e.owner) ≡ true → IsAt o all at
  found_here so = let q : at + 0 ≡ at = omega arith in subst (λ (j : ℕ). IsAt o all j) q (is.there 0 so)

  pub gap_here : same_owner o (plain_owner e.owner) ≡ false → comes_before o (plain_owner e.owner) ≡ true → IsGapFor o all at
  gap_here ne so = let q : at + 0 ≡ at = omega arith in subst (λ (j : ℕ). IsGapFor o all j) q (is.gap 0 (ne, so))

pub gap_behind : (o : Owner) (all : List Entry) (at : ℕ) → IsSought o all [] at → IsGapFor o all at
gap_behind o all at is = let q : at + 0 ≡ at = omega arith in subst (λ (j : ℕ). IsGapFor o all j) q (is.gap 0 tt)

-- ---- by index

left_at : (es : List Entry) (at : ℕ) (e : Entry) → at < length es → e ≡ get_or es at e → drop at es ≡ e ∷ drop (at + 1) es
left_at [] at e lt is = absurd (omega (arith, lt))
left_at (x ∷ es) zero e lt is = ap (λ (y : Entry). y ∷ es) (sym is)
left_at (x ∷ es) (suc n) e lt is =
    let q : suc (n + 1) ≡ suc n + 1 = omega arith in
    left_at es n e (omega (arith, lt)) is ∙ ap (λ (k : ℕ). e ∷ drop k (x ∷ es)) q

past : (es : List Entry) (at : ℕ) → length es ≤ at → drop at es ≡ []
past [] zero le = refl
past [] (suc at) le = refl
past (e ∷ es) zero le = absurd (omega (arith, le))
past (e ∷ es) (suc at) le = past es at (omega (arith, le))

module _ (o : Owner) (es : List Entry) (at : ℕ) (is : IsSought o es (drop at es) at) where
  pub gap_at_end : length es ≤ at → IsGapFor o es at
  gap_at_end le = gap_behind o es at (subst (λ (l : List Entry). IsSought o es l at) (past es at le) is)

  module _ (e : Entry) (lt : at < length es) (read : e ≡ get_or es at e) where
    here : IsSought o es (e ∷ drop (at + 1) es) at
    here = subst (λ (l : List Entry). IsSought o es l at) (left_at es at e lt read) is

    pub next_one : same_owner o (plain_owner e.owner) ≡ false → comes_before o (plain_owner e.owner) ≡ false → IsSought o es (drop (at + 1) es) (at + 1)
    next_one ne n = one_on o es e (drop (at + 1) es) at here ne n

    pub found_it : same_owner o (plain_owner e.owner) ≡ true → IsAt o es at
    found_it so = found_here o es e (drop (at + 1) es) at here so

    pub gap_at : same_owner o (plain_owner e.owner) ≡ false → comes_before o (plain_owner e.owner) ≡ true → IsGapFor o es at
    gap_at ne so = gap_here o es e (drop (at + 1) es) at here ne so
