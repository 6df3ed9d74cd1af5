-- A page with one row more.
use Rattle.std.proofs.Common.{◌≡◌, ℕ, zero, suc, ◌+◌, ◌≤◌, List, [], ◌∷◌, ◌++◌, length, drop, replicate, refl, sym, ap, ◌∙◌, arith, append_assoc, append-nil, length-append}
use Rattle.std.proofs.lemmas.List.{drop-append-le, length-drop}
use Rattle.row_pages.specs.Page.{row_bytes, rows_bytes}
use Rattle.row_pages.specs.Reading.{rows_in}
use Rattle.row_pages.proofs.RowBytes.{AreShort, rows_written, short_below}

rows_more : (rows : List (List ℕ)) (row : List ℕ) → rows_bytes (rows ++ row ∷ []) ≡ rows_bytes rows ++ row_bytes row
rows_more [] row = append-nil (row_bytes row)
rows_more (r ∷ rows) row = ap (λ (x : List ℕ). row_bytes r ++ x) (rows_more rows row) ∙ sym (append_assoc (row_bytes r) (rows_bytes rows) (row_bytes row))

row_size : (row : List ℕ) → length (row_bytes row) ≡ 2 + length row
row_size row = omega arith

-- what a page of these rows has, and one row more
pub size_more : (rows : List (List ℕ)) (row : List ℕ) → length (rows_bytes (rows ++ row ∷ [])) ≡ length (rows_bytes rows) + 2 + length row
size_more rows row = omega (arith, ap length (rows_more rows row), length-append (rows_bytes rows) (row_bytes row), row_size row)

module _ (n : ℕ) (old new row : List ℕ) (head : 3 ≤ length old) (laid : drop 3 old ≡ rows_bytes (rows_in n (drop 3 old))) (counted : length (rows_in n (drop 3 old)) ≡ n)
    (is : new ≡ old ++ row_bytes row) (fits : length new ≤ 8192) where
  abbrev rows : List (List ℕ)
  rows = rows_in n (drop 3 old)

  pub bytes_grown : drop 3 new ≡ rows_bytes (rows ++ row ∷ [])
  bytes_grown =
      ap (λ (x : List ℕ). drop 3 x) is ∙ drop-append-le 3 old (row_bytes row) head
      ∙ ap (λ (x : List ℕ). x ++ row_bytes row) laid ∙ sym (rows_more rows row)

  pub count_grown : length (rows ++ row ∷ []) ≡ n + 1
  count_grown = length-append rows (row ∷ []) ∙ ap (λ (m : ℕ). m + 1) counted

  pub size_grown : 3 + length (rows_bytes (rows ++ row ∷ [])) ≡ length new
  size_grown = omega (arith, sym (ap length bytes_grown), length-drop 3 new, ap length is, length-append old (row_bytes row), head)

  pub rows_grown : rows_in (n + 1) (drop 3 new) ≡ rows ++ row ∷ []
  rows_grown =
      let short : AreShort (rows ++ row ∷ []) = short_below (rows ++ row ∷ []) 8189 (omega arith) (omega (arith, size_grown, fits)) in
      ap (λ (m : ℕ). rows_in m (drop 3 new)) (sym count_grown)
      ∙ ap (λ (x : List ℕ). rows_in (length (rows ++ row ∷ [])) x) (bytes_grown ∙ sym (append-nil (rows_bytes (rows ++ row ∷ []))))
      ∙ rows_written (rows ++ row ∷ []) [] short

-- zeros, and one more
pub zeros_more : (n : ℕ) → replicate {A = ℕ} n 0 ++ 0 ∷ [] ≡ replicate (suc n) 0
zeros_more zero = refl
zeros_more (suc n) = ap (λ (x : List ℕ). 0 ∷ x) (zeros_more n)
