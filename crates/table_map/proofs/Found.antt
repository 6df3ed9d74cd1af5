-- A key is found in the page whose first key is the last that it does not come before.
use Rattle.std.proofs.Common.{◌≡◌, ℕ, zero, suc, ◌+◌, ◌-◌, ◌*◌, ◌<◌, List, [], ◌∷◌, ◌++◌, length, get_or, Bool, true, false, cond, Some, None, refl, sym, ap, ◌∙◌, subst, arith, append_assoc, Less}
use Rattle.std.proofs.lemmas.List.{append-nil}
use Rattle.std.specs.List.{AllByRecursion}
use Rattle.std.specs.List.Sorted.{IsStrictlySortedBy}
use Rattle.std.specs.Ordering.{is_eq}
use Rattle.std.specs.Cmp.Lexicographic.{nat_list_cmp_total}
use Rattle.std.specs.Map.{keys_of}
use Rattle.std.proofs.lemmas.Map.Keys.{sorted_head, sorted_tail}
use Rattle.drda_words.specs.Place.{part}
use Rattle.row_pages.specs.Page.{IsPage}
use Rattle.row_pages.specs.Laying.{HasSome, rows_over}
use Rattle.row_pages.specs.declared.page.PageKind.TheVariants as kind
use Rattle.key_map.specs.Slots.{by_bytes}
use Rattle.key_map.specs.Merging.{Rows, Above, InOrder, row_at}
use Rattle.key_map.proofs.Merged.{missing_above, weaker, skip, tie_is}
use Rattle.table_map.specs.Keyed.{keyed_rows, first_keys}
use Rattle.table_map.specs.Places.{IsPlace}
use Rattle.table_map.specs.Stored.{Places, AreAt, IsStored}

-- ---- rows in order

-- nothing is found from a row on that comes behind the key
skip_back : (q : List ℕ) (a : Rows) (f : List ℕ × List ℕ) (fs : Rows) → InOrder (f ∷ fs) → by_bytes q f.0 ≡ Less → row_at q (a ++ (f ∷ fs)) ≡ row_at q a
skip_back q [] f fs up less = missing_above q (f ∷ fs) (less, weaker (λ y. by_bytes f.0 y ≡ Less) (λ y. by_bytes q y ≡ Less) (keys_of fs) (λ y lt. nat_list_cmp_total.trans q f.0 y less lt) (sorted_head by_bytes f.0 (keys_of fs) up))
skip_back q (e ∷ es) f fs up less = ap (λ o. cond (is_eq (by_bytes q e.0)) (Some e.1) o) (skip_back q es f fs up less)

last_above : (key : List ℕ) (a : Rows) (f : List ℕ × List ℕ) (fs : Rows) → Above key (a ++ (f ∷ fs)) → by_bytes key f.0 ≡ Less
last_above key [] f fs above = above.0
last_above key (e ∷ es) f fs above = last_above key es f fs above.1

pub apart : (q key f : List ℕ) → by_bytes key f ≡ Less → (by_bytes q f ≡ Less → ⊥) → is_eq (by_bytes q key) ≡ false
apart q key f less past = by_tie (is_eq (by_bytes q key)) refl
  where
    by_tie : (b : Bool) → is_eq (by_bytes q key) ≡ b → b ≡ false
    by_tie false is = refl
    by_tie true is = absurd (past (nat_list_cmp_total.congr q key f (tie_is (by_bytes q key) is) ∙ less))

-- nor before one that does not
skip_front : (q : List ℕ) (a : Rows) (f : List ℕ × List ℕ) (fs : Rows) → InOrder (a ++ (f ∷ fs)) → (by_bytes q f.0 ≡ Less → ⊥) → row_at q (a ++ (f ∷ fs)) ≡ row_at q (f ∷ fs)
skip_front q [] f fs up past = refl
skip_front q (e ∷ es) f fs up past =
    skip (is_eq (by_bytes q e.0)) (Some e.1) (row_at q (es ++ (f ∷ fs))) (apart q e.0 f.0 (last_above e.0 es f fs (sorted_head by_bytes e.0 (keys_of (es ++ (f ∷ fs))) up)) past)
    ∙ skip_front q es f fs (sorted_tail by_bytes e.0 (keys_of (es ++ (f ∷ fs))) up) past

pub behind_order : (a b : Rows) → InOrder (a ++ b) → InOrder b
behind_order [] b up = up
behind_order (e ∷ es) b up = behind_order es b (sorted_tail by_bytes e.0 (keys_of (es ++ b)) up)

front_above : (key : List ℕ) (a b : Rows) → Above key (a ++ b) → Above key a
front_above key [] b above = tt
front_above key (e ∷ es) b above = (above.0, front_above key es b above.1)

pub front_order : (a b : Rows) → InOrder (a ++ b) → InOrder a
unfolding IsStrictlySortedBy
front_order [] b up = tt
front_order (e ∷ es) b up = (front_above e.0 es b (sorted_head by_bytes e.0 (keys_of (es ++ b)) up), front_order es b (sorted_tail by_bytes e.0 (keys_of (es ++ b)) up))

-- ---- pages

module _ (key_of : List ℕ → List ℕ) (q : List ℕ) where
  pub keyed_append : (a b : List (List ℕ)) → keyed_rows key_of (a ++ b) ≡ keyed_rows key_of a ++ keyed_rows key_of b
  keyed_append [] b = refl
  keyed_append (row ∷ rows) b = ap (λ (l : Rows). (key_of row, row) ∷ l) (keyed_append rows b)

  length_first : (pages : List (List (List ℕ))) → length (first_keys key_of pages) ≡ length pages
  length_first [] = refl
  length_first (page ∷ pages) = ap suc (length_first pages)

  -- the pages from one on whose first key comes behind
  rest_skipped : (front : Rows) (pages : List (List (List ℕ))) → AllByRecursion HasSome pages → InOrder (front ++ keyed_rows key_of (rows_over pages)) → (0 < length pages → by_bytes q (get_or (first_keys key_of pages) 0 []) ≡ Less)
      → row_at q (front ++ keyed_rows key_of (rows_over pages)) ≡ row_at q front
  rest_skipped front [] some up before = ap (λ (l : Rows). row_at q l) (append-nil front)
  rest_skipped front ([] ∷ pages) some up before = absurd some.0
  rest_skipped front ((row ∷ rows) ∷ pages) some up before =
      skip_back q front (key_of row, row) (keyed_rows key_of (rows ++ rows_over pages)) (behind_order front _ up) (before (omega arith))

  found_at : (front : Rows) (pages : List (List (List ℕ))) (i : ℕ) → AllByRecursion HasSome pages → InOrder (front ++ keyed_rows key_of (rows_over pages)) → i < length pages
      → (by_bytes q (get_or (first_keys key_of pages) i []) ≡ Less → ⊥) → (suc i < length pages → by_bytes q (get_or (first_keys key_of pages) (suc i) []) ≡ Less)
      → row_at q (front ++ keyed_rows key_of (rows_over pages)) ≡ row_at q (keyed_rows key_of (get_or pages i []))
  found_at front [] i some up low past before = absurd (omega arith)
  found_at front ([] ∷ pages) zero some up low past before = absurd some.0
  found_at front ((row ∷ rows) ∷ pages) zero some up low past before =
      let here = keyed_rows key_of (row ∷ rows) in
      let joined : keyed_rows key_of ((row ∷ rows) ++ rows_over pages) ≡ here ++ keyed_rows key_of (rows_over pages) = keyed_append (row ∷ rows) (rows_over pages) in
      skip_front q front (key_of row, row) (keyed_rows key_of (rows ++ rows_over pages)) up past
      ∙ ap (λ (l : Rows). row_at q l) joined
      ∙ rest_skipped here pages some.1 (subst (λ (l : Rows). InOrder l) joined (behind_order front _ up)) (λ more. before (omega arith))
  found_at front (page ∷ pages) (suc i) some up low past before =
      let joined : front ++ keyed_rows key_of (page ++ rows_over pages) ≡ (front ++ keyed_rows key_of page) ++ keyed_rows key_of (rows_over pages) =
      ap (λ (l : Rows). front ++ l) (keyed_append page (rows_over pages)) ∙ sym (append_assoc front (keyed_rows key_of page) (keyed_rows key_of (rows_over pages))) in
      ap (λ (l : Rows). row_at q l) joined
      ∙ found_at (front ++ keyed_rows key_of page) pages i some.1 (subst (λ (l : Rows). InOrder l) joined up) (omega arith) past (λ more. before (omega arith))

  page_order : (pages : List (List (List ℕ))) (i : ℕ) → InOrder (keyed_rows key_of (rows_over pages)) → i < length pages → InOrder (keyed_rows key_of (get_or pages i []))
  page_order [] i up low = absurd (omega (arith, low))
  page_order (page ∷ pages) zero up low = front_order (keyed_rows key_of page) (keyed_rows key_of (rows_over pages)) (subst (λ (l : Rows). InOrder l) (keyed_append page (rows_over pages)) up)
  page_order (page ∷ pages) (suc i) up low =
      page_order pages i (behind_order (keyed_rows key_of page) (keyed_rows key_of (rows_over pages)) (subst (λ (l : Rows). InOrder l) (keyed_append page (rows_over pages)) up)) (omega (arith, low))

  -- a page where it lies
  pub page_there : (file : List ℕ) (at : ℕ) (pages : List (List (List ℕ))) (i : ℕ) → AreAt file at pages → i < length pages → IsPage (record { kind = kind.Rows; rows = get_or pages i [] }) (part file (at + 8192 * i) 8192)
  page_there file at [] i are low = absurd (omega arith)
  page_there file at (page ∷ pages) zero are low = let same : at ≡ at + 8192 * 0 = omega arith in subst (λ k. IsPage (record { kind = kind.Rows; rows = page }) (part file k 8192)) same are.0
  page_there file at (page ∷ pages) (suc i) are low =
      let same : at + 8192 + 8192 * i ≡ at + 8192 * suc i = omega arith in
      subst (λ k. IsPage (record { kind = kind.Rows; rows = get_or pages i [] }) (part file k 8192)) same (page_there file (at + 8192) pages i are.1 (omega arith))

  module _ (places : Places) (pages : List (List (List ℕ))) (file : List ℕ) (is : IsStored key_of places pages file) (n : ℕ) (place : IsPlace q places.keys n) where
    as_many : length places.keys ≡ length pages
    as_many = ap length is.first ∙ length_first pages

    pub none_before : n ≡ 0 → row_at q (keyed_rows key_of (rows_over pages)) ≡ None
    none_before none = rest_skipped [] pages is.some is.order
        (λ more. ap (λ (l : List (List ℕ)). by_bytes q (get_or l 0 [])) (sym is.first) ∙ ap (λ k. by_bytes q (get_or places.keys k [])) (sym none) ∙ place.before (omega (arith, as_many, none, more)))

    pub found_in : (i : ℕ) → n ≡ suc i → row_at q (keyed_rows key_of (rows_over pages)) ≡ row_at q (keyed_rows key_of (get_or pages i []))
    found_in i next =
        let last : n - 1 ≡ i = omega arith in
        found_at [] pages i is.some is.order (omega (arith, place.within, as_many, next))
        (λ less. place.behind (omega arith) (ap (λ k. by_bytes q (get_or places.keys k [])) last ∙ ap (λ (l : List (List ℕ)). by_bytes q (get_or l i [])) is.first ∙ less))
        (λ more. ap (λ (l : List (List ℕ)). by_bytes q (get_or l (suc i) [])) (sym is.first) ∙ ap (λ k. by_bytes q (get_or places.keys k [])) (sym next) ∙ place.before (omega (arith, as_many, next, more)))

    pub in_order : (i : ℕ) → n ≡ suc i → InOrder (keyed_rows key_of (get_or pages i []))
    in_order i next = page_order pages i is.order (omega (arith, place.within, as_many, next))

    pub lies_at : (i : ℕ) → n ≡ suc i → IsPage (record { kind = kind.Rows; rows = get_or pages i [] }) (part file (places.at + 8192 * i) 8192)
    lies_at i next = page_there file places.at pages i is.stand (omega (arith, place.within, as_many, next))
