-- The places where rows begin.
use Rattle.std.proofs.Common.{◌≡◌, ℕ, zero, suc, ◌+◌, ◌-◌, ◌<◌, ◌≤◌, List, [], ◌∷◌, length, take, drop, get_or, Bool, true, false, ◌&&◌, ◌==◌, Option, Some, None, refl, sym, ap, subst, ◌∙◌, arith, if◌then◌else◌, length-append}
use Rattle.std.specs.Prelude.{IfSome}
use Rattle.std.specs.List.{list_all, slice_get}
use Rattle.std.proofs.lemmas.List.{drop-drop, length-drop, take-append-drop}
use Rattle.drda_words.specs.Bytes.{AreBytes}
use Rattle.drda_words.proofs.Bytes.{rest_are_bytes}
use Rattle.row_pages.specs.Page.{IsPage, Page, rows_bytes}
use Rattle.row_pages.specs.Reading.{row_at, has_rows, has_behind, with_first, rows_in, behind_rows, row_starts, start_before}
use Rattle.row_pages.specs.Parsing.{HasHead, page_at}
use Rattle.row_pages.specs.Keeping.{KeepsPage, KeepsStarts, page_with}
use Rattle.row_pages.specs.Walk.{ArePlaced, EndsRow}
use Rattle.row_pages.specs.declared.page.PageKind.{PageKind}
use Rattle.row_pages.proofs.RowBytes.{row_cut, rows_read}
use Rattle.row_pages.proofs.PageBytes.{no_page_at, page_read}

-- where a row ends
pub ends_row : (bytes row rest : List ℕ) (at : ℕ) → at ≤ length bytes → row_at (drop at bytes) ≡ Some (row, rest) → EndsRow bytes at (at + 2 + length row)
ends_row bytes row rest at low e =
    let cut = row_cut (drop at bytes) row rest e in
    let there : at + suc (suc (length row)) ≡ at + 2 + length row = omega arith in
    record {
      row = row;
      is = e ∙ ap (λ (r : List ℕ). Some (row, r)) (cut.0 ∙ drop-drop (suc (suc (length row))) at bytes ∙ ap (λ k. drop k bytes) there);
      size = refl;
      within = omega (arith, cut.1, length-drop at bytes, low);
    }

-- past the first row
pub starts_past : (n : ℕ) (bytes : List ℕ) (at end : ℕ) → 0 < n → EndsRow bytes at end → row_starts at n bytes ≡ at ∷ row_starts end (n - 1) bytes
starts_past zero bytes at end some ends = absurd (omega (arith, some))
starts_past (suc n) bytes at end some ends =
    let one : suc n - 1 ≡ n = omega arith in
    ap (λ o. start_before at o (λ next. row_starts next n bytes)) ends.is
    ∙ ap (λ (k : ℕ). at ∷ row_starts k n bytes) (sym ends.size)
    ∙ ap (λ (k : ℕ). at ∷ row_starts end k bytes) (sym one)

-- ---- how many there are

pub rows_count : (n : ℕ) (bytes : List ℕ) → has_rows n bytes ≡ true → length (rows_in n bytes) ≡ n
rows_count zero bytes has = refl
rows_count (suc n) bytes has = by (row_at bytes) (rows_count n) has
  where
    by : (o : Option (List ℕ × List ℕ)) → ((rest : List ℕ) → has_rows n rest ≡ true → length (rows_in n rest) ≡ n) → has_behind o (has_rows n) ≡ true → length (with_first o (rows_in n)) ≡ suc n
    by None more has = absurd cc
    by (Some x) more has = ap suc (more x.1 has)

-- ---- a row by its place

pub record RowThere (bytes : List ℕ) (start : ℕ) (found : Option (List ℕ)) : Type 0 where
  pub row : List ℕ
  pub rest : List ℕ
  pub is : row_at (drop start bytes) ≡ Some (row, rest)
  pub same : found ≡ Some row
  pub within : start ≤ length bytes

abbrev rest_in : Option (List ℕ × List ℕ) → List ℕ
rest_in None = []
rest_in (Some y) = y.1

there_first : (bytes : List ℕ) (n at d : ℕ) (o : Option (List ℕ × List ℕ)) → row_at (drop at bytes) ≡ o → at ≤ length bytes → has_behind o (has_rows n) ≡ true
    → RowThere bytes (get_or (start_before at o (λ next. row_starts next n bytes)) 0 d) (slice_get (with_first o (rows_in n)) 0)
there_first bytes n at d None is low has = absurd cc
there_first bytes n at d (Some x) is low has = record { row = x.0; rest = x.1; is = is; same = refl; within = low }

there_next : (bytes : List ℕ) (n at i d : ℕ) (o : Option (List ℕ × List ℕ)) → row_at (drop at bytes) ≡ o → at ≤ length bytes → has_behind o (has_rows n) ≡ true
    → ((next : ℕ) → has_rows n (drop next bytes) ≡ true → next ≤ length bytes → RowThere bytes (get_or (row_starts next n bytes) i d) (slice_get (rows_in n (drop next bytes)) i))
    → RowThere bytes (get_or (start_before at o (λ next. row_starts next n bytes)) (suc i) d) (slice_get (with_first o (rows_in n)) (suc i))
there_next bytes n at i d None is low has more = absurd cc
there_next bytes n at i d (Some x) is low has more =
    let ends = ends_row bytes x.0 x.1 at low is in
    let rest : x.1 ≡ drop (at + 2 + length x.0) bytes = ap rest_in (sym is ∙ ends.is) in
    subst (λ (r : List ℕ). RowThere bytes (get_or (row_starts (at + 2 + length x.0) n bytes) i d) (slice_get (rows_in n r) i)) (sym rest)
    (more (at + 2 + length x.0) (ap (has_rows n) (sym rest) ∙ has) ends.within)

row_there : (n at i d : ℕ) (bytes : List ℕ) → has_rows n (drop at bytes) ≡ true → i < n → at ≤ length bytes → RowThere bytes (get_or (row_starts at n bytes) i d) (slice_get (rows_in n (drop at bytes)) i)
row_there zero at i d bytes has inside low = absurd (omega (arith, inside))
row_there (suc n) at zero d bytes has inside low = there_first bytes n at d (row_at (drop at bytes)) refl low has
row_there (suc n) at (suc i) d bytes has inside low = there_next bytes n at i d (row_at (drop at bytes)) refl low has (λ next has low. row_there n next i d bytes has (omega (arith, inside)) low)

-- the row of a page that is kept
pub kept_row : (starts bytes : List ℕ) (rows : List (List ℕ)) (i d start : ℕ) → KeepsStarts starts bytes → rows_in (length starts) (drop 3 bytes) ≡ rows → i < length rows → start ≡ get_or starts i d → RowThere bytes start (slice_get rows i)
kept_row starts bytes rows i d start keeps is inside at =
    let low : 3 ≤ length bytes = keeps.rows.head in
    let many = rows_count (length starts) (drop 3 bytes) keeps.rows.has in
    subst (λ (r : List (List ℕ)). RowThere bytes start (slice_get r i)) is
    (subst (λ (n : ℕ). RowThere bytes n (slice_get (rows_in (length starts) (drop 3 bytes)) i)) (sym (at ∙ ap (λ (s : List ℕ). get_or s i d) keeps.same))
    (row_there (length starts) 3 i d bytes keeps.rows.has (omega (arith, inside, ap length is, many)) low))

-- what is read at a row's place
pub read_there : (bytes : List ℕ) (start : ℕ) (found : Option (List ℕ)) (o : Option (List ℕ × List ℕ)) → RowThere bytes start found → o ≡ row_at (drop start bytes) → IfSome o (λ x. found ≡ Some x.0)
read_there bytes start found None there is = tt
read_there bytes start found (Some x) there is = there.same ∙ sym (ap first_in (is ∙ there.is))
  where
    first_in : Option (List ℕ × List ℕ) → Option (List ℕ)
    first_in None = None
    first_in (Some y) = Some y.0

pub no_row_there : (bytes : List ℕ) (start : ℕ) (found : Option (List ℕ)) → RowThere bytes start found → None ≡ row_at (drop start bytes) → ⊥
no_row_there bytes start found there is = let clash : None ≡ Some (there.row, there.rest) = is ∙ there.is in absurd cc

starts_count : (n at : ℕ) (bytes : List ℕ) → has_rows n (drop at bytes) ≡ true → at ≤ length bytes → length (row_starts at n bytes) ≡ n
starts_count zero at bytes has low = refl
starts_count (suc n) at bytes has low = by (row_at (drop at bytes)) refl has (λ next has low. starts_count n next bytes has low)
  where
    by : (o : Option (List ℕ × List ℕ)) → row_at (drop at bytes) ≡ o → has_behind o (has_rows n) ≡ true → ((next : ℕ) → has_rows n (drop next bytes) ≡ true → next ≤ length bytes → length (row_starts next n bytes) ≡ n)
        → length (start_before at o (λ next. row_starts next n bytes)) ≡ suc n
    by None is has more = absurd cc
    by (Some x) is has more =
        let ends = ends_row bytes x.0 x.1 at low is in
        ap suc (more (at + 2 + length x.0) (ap (λ o. has_behind o (has_rows n)) (sym ends.is ∙ is) ∙ has) ends.within)

-- ---- a page that is judged

module _ (bytes starts : List ℕ) (kind : PageKind) (count end : ℕ) (head : HasHead bytes kind count) where
  long : length (drop 3 bytes) ≡ 8189
  long = omega (arith, length-drop 3 bytes, head.size)

  pub counted : ArePlaced count bytes starts end → length starts ≡ count
  counted placed = ap length placed.same ∙ starts_count count 3 bytes placed.has (omega (arith, head.size))

  pub keeps : ArePlaced count bytes starts end → KeepsStarts starts bytes
  keeps placed =
      let many = counted placed in
      record {
        rows = record { head = omega (arith, head.size); has = ap (λ n. has_rows n (drop 3 bytes)) many ∙ placed.has };
        same = placed.same ∙ ap (λ n. row_starts 3 n bytes) (sym many);
      }

  page_if : ArePlaced count bytes starts end → (b : Bool) → list_all (λ x. x == 0) (drop end bytes) ≡ b
      → page_at bytes ≡ (if b then Some (page_with (kind, count) bytes) else None)
  page_if placed b zeros =
      head.same
      ∙ ap (λ h. if h then (if length (drop 3 bytes) == 8189 && list_all (λ x. x == 0) (behind_rows count (drop 3 bytes)) then Some (page_with (kind, count) bytes) else None) else None) placed.has
      ∙ ap (λ n. if n == 8189 && list_all (λ x. x == 0) (behind_rows count (drop 3 bytes)) then Some (page_with (kind, count) bytes) else None) long
      ∙ ap (λ z. if z then Some (page_with (kind, count) bytes) else None) (ap (list_all (λ x. x == 0)) placed.behind ∙ zeros)

  pub is_page : AreBytes bytes → ArePlaced count bytes starts end → list_all (λ x. x == 0) (drop end bytes) ≡ true → IsPage (page_with (kind, length starts) bytes) bytes
  is_page all placed zeros =
      subst (λ n. IsPage (page_with (kind, n) bytes) bytes) (sym (counted placed)) (page_read (page_with (kind, count) bytes) bytes all (page_if placed true zeros))

  -- the last row ends where the bytes of all rows do
  ends : AreBytes bytes → ArePlaced count bytes starts end → end ≡ 3 + length (rows_bytes (rows_in count (drop 3 bytes)))
  ends all placed =
      let was = rows_read count (drop 3 bytes) (rest_are_bytes (take 3 bytes) (drop 3 bytes) (subst AreBytes (sym (take-append-drop 3 bytes)) all)) placed.has in
      omega (
        arith,
        long,
        ap length was.same,
        length-append (rows_bytes (rows_in count (drop 3 bytes))) (behind_rows count (drop 3 bytes)),
        ap length placed.behind,
        length-drop end bytes,
        placed.within,
        head.size,
      )

  pub keeps_page : AreBytes bytes → ArePlaced count bytes starts end → list_all (λ x. x == 0) (drop end bytes) ≡ true → KeepsPage kind starts bytes end
  keeps_page all placed zeros = record {
    places = keeps placed;
    is = is_page all placed zeros;
    ends = ends all placed ∙ ap (λ n. 3 + length (rows_bytes (rows_in n (drop 3 bytes)))) (sym (counted placed));
  }

  pub is_none : ArePlaced count bytes starts end → list_all (λ x. x == 0) (drop end bytes) ≡ false → (page : Page) → IsPage page bytes → ⊥
  is_none placed zeros = no_page_at bytes (page_if placed false zeros)

  pub has_none : has_rows count (drop 3 bytes) ≡ false → (page : Page) → IsPage page bytes → ⊥
  has_none has =
      no_page_at bytes
      (head.same
      ∙ ap (λ h. if h then (if length (drop 3 bytes) == 8189 && list_all (λ x. x == 0) (behind_rows count (drop 3 bytes)) then Some (page_with (kind, count) bytes) else None) else None) has)
