-- A key is found by halves among rows whose keys rise.
use Rattle.std.proofs.Common.{◌≡◌, ℕ, zero, suc, ◌-◌, ◌<◌, ◌≤◌, List, [], ◌∷◌, length, drop, cond, Some, None, refl, sym, ap, ◌∙◌, arith, Less, Equal, Greater}
use Rattle.std.specs.List.{slice_get}
use Rattle.std.specs.Ordering.{is_eq}
use Rattle.std.specs.Cmp.Lexicographic.{nat_list_cmp_total}
use Rattle.std.specs.Map.{keys_of}
use Rattle.std.proofs.lemmas.Map.Keys.{sorted_head, sorted_tail}
use Rattle.key_map.specs.Slots.{by_bytes}
use Rattle.key_map.specs.Merging.{Above, InOrder, row_at}
use Rattle.key_map.proofs.Merged.{missing_above, weaker, skip}
use Rattle.table_map.specs.Keyed.{keyed_rows}
use Rattle.table_map.proofs.Found.{apart}

module _ (key_of : List ℕ → List ℕ) (q : List ℕ) where
  above_at : (key : List ℕ) (rows : List (List ℕ)) (m : ℕ) (row : List ℕ) → Above key (keyed_rows key_of rows) → slice_get rows m ≡ Some row → by_bytes key (key_of row) ≡ Less
  above_at key [] m row above is = absurd cc
  above_at key (r ∷ rows) zero row above is = let same : r ≡ row = cc in ap (λ (x : List ℕ). by_bytes key (key_of x)) (sym same) ∙ above.0
  above_at key (r ∷ rows) (suc m) row above is = above_at key rows m row above.1 is

  -- nothing is found in front of a row that the key does not come before
  from_row : (rows : List (List ℕ)) (m : ℕ) (row : List ℕ) → InOrder (keyed_rows key_of rows) → slice_get rows m ≡ Some row → (by_bytes q (key_of row) ≡ Less → ⊥) → row_at q (keyed_rows key_of rows) ≡ row_at q (keyed_rows key_of (drop m rows))
  from_row [] m row up is past = absurd cc
  from_row (r ∷ rows) zero row up is past = refl
  from_row (r ∷ rows) (suc m) row up is past =
      skip (is_eq (by_bytes q (key_of r))) (Some r) (row_at q (keyed_rows key_of rows))
      (apart q (key_of r) (key_of row) (above_at (key_of r) rows m row (sorted_head by_bytes (key_of r) (keys_of (keyed_rows key_of rows)) up) is) past)
      ∙ from_row rows m row (sorted_tail by_bytes (key_of r) (keys_of (keyed_rows key_of rows)) up) is past

  drop_at : (rows : List (List ℕ)) (m : ℕ) (row : List ℕ) → slice_get rows m ≡ Some row → drop m rows ≡ row ∷ drop (suc m) rows
  drop_at [] m row is = absurd cc
  drop_at (r ∷ rows) zero row is = let same : r ≡ row = cc in ap (λ (x : List ℕ). x ∷ rows) same
  drop_at (r ∷ rows) (suc m) row is = drop_at rows m row is

  pub found_here : (rows : List (List ℕ)) (m : ℕ) (row : List ℕ) → InOrder (keyed_rows key_of rows) → slice_get rows m ≡ Some row → by_bytes q (key_of row) ≡ Equal → Some row ≡ row_at q (keyed_rows key_of rows)
  found_here rows m row up is same =
      sym
      (from_row rows m row up is (λ less. not_both (sym same ∙ less))
      ∙ ap (λ (l : List (List ℕ)). row_at q (keyed_rows key_of l)) (drop_at rows m row is)
      ∙ ap (λ o. cond (is_eq o) (Some row) (row_at q (keyed_rows key_of (drop (suc m) rows)))) same)
    where
      not_both : Equal ≡ Less → ⊥
      not_both e = absurd cc

  none_behind : (rows : List (List ℕ)) (n : ℕ) → InOrder (keyed_rows key_of rows) → ((row : List ℕ) → slice_get rows n ≡ Some row → by_bytes q (key_of row) ≡ Less) → row_at q (keyed_rows key_of (drop n rows)) ≡ None
  none_behind [] zero up before = refl
  none_behind [] (suc n) up before = refl
  none_behind (r ∷ rows) zero up before =
      let less = before r refl in
      missing_above q (keyed_rows key_of (r ∷ rows)) (
        less,
        weaker (λ y. by_bytes (key_of r) y ≡ Less) (λ y. by_bytes q y ≡ Less) (keys_of (keyed_rows key_of rows)) (λ y lt. nat_list_cmp_total.trans q (key_of r) y less lt) (sorted_head by_bytes (key_of r) (keys_of (keyed_rows key_of rows)) up),
      )
  none_behind (r ∷ rows) (suc n) up before = none_behind rows n (sorted_tail by_bytes (key_of r) (keys_of (keyed_rows key_of rows)) up) before

  behind_last : (rows : List (List ℕ)) (m : ℕ) (row : List ℕ) → InOrder (keyed_rows key_of rows) → slice_get rows m ≡ Some row → by_bytes q (key_of row) ≡ Greater → row_at q (keyed_rows key_of rows) ≡ row_at q (keyed_rows key_of (drop (suc m) rows))
  behind_last rows m row up is greater =
      from_row rows m row up is (λ less. not_both (sym greater ∙ less))
      ∙ ap (λ (l : List (List ℕ)). row_at q (keyed_rows key_of l)) (drop_at rows m row is)
      ∙ ap (λ o. cond (is_eq o) (Some row) (row_at q (keyed_rows key_of (drop (suc m) rows)))) greater
    where
      not_both : Greater ≡ Less → ⊥
      not_both e = absurd cc

  some_at : (rows : List (List ℕ)) (m : ℕ) → m < length rows → (row : List ℕ) × (slice_get rows m ≡ Some row)
  some_at [] m low = absurd (omega (arith, low))
  some_at (r ∷ rows) zero low = (r, refl)
  some_at (r ∷ rows) (suc m) low = some_at rows m (omega (arith, low))

  -- the key comes behind the row in front of a place, and before the one there
  pub missing_here : (rows : List (List ℕ)) (n : ℕ) → InOrder (keyed_rows key_of rows) → n ≤ length rows → ((row : List ℕ) → 0 < n → slice_get rows (n - 1) ≡ Some row → by_bytes q (key_of row) ≡ Greater)
      → ((row : List ℕ) → slice_get rows n ≡ Some row → by_bytes q (key_of row) ≡ Less) → None ≡ row_at q (keyed_rows key_of rows)
  missing_here rows zero up within behind before = sym (none_behind rows 0 up before)
  missing_here rows (suc n) up within behind before =
      let one : suc n - 1 ≡ n = omega arith in
      let (row, is) = some_at rows n (omega (arith, within)) in
      sym
      (behind_last rows n row up is (behind row (omega arith) (ap (λ k. slice_get rows k) one ∙ is))
      ∙ none_behind rows (suc n) up before)
