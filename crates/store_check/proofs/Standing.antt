-- Pages that stand one behind another.
use Rattle.std.proofs.Common.{◌≡◌, ℕ, ◌+◌, ◌*◌, ◌<◌, List, [], ◌∷◌, ◌++◌, length, refl, sym, ap, subst, ◌∙◌, arith, append_assoc, append-nil}
use Rattle.std.specs.List.{AllByRecursion}
use Rattle.drda_words.specs.Place.{part}
use Rattle.row_pages.specs.Page.{IsPage, Page}
use Rattle.row_pages.specs.Parsing.{OnePage}
use Rattle.row_pages.specs.Laying.{rows_over}
use Rattle.row_pages.specs.declared.page.PageKind.TheVariants as kind
use Rattle.table_map.specs.Keyed.{first_key, first_keys}
use Rattle.table_map.specs.Stored.{AreAt}

abbrev pub a_page : List (List ℕ) → Page
a_page rows = record { kind = kind.Rows; rows = rows }

-- ---- a page behind others

pub stand_more : (file : List ℕ) (at here : ℕ) (front : List (List (List ℕ))) (page : List (List ℕ)) → here ≡ at + 8192 * length front → AreAt file at front → IsPage (a_page page) (part file here 8192) → AreAt file at (front ++ page ∷ [])
stand_more file at here [] page place stand is = (subst (λ n. IsPage (a_page page) (part file n 8192)) (omega (arith, place)) is, tt)
stand_more file at here (p ∷ front) page place stand is = (stand.0, stand_more file (at + 8192) here front page (omega (arith, place)) stand.1 is)

pub stand_last : (file : List ℕ) (at here : ℕ) (front : List (List (List ℕ))) (page : List (List ℕ)) → here ≡ at + 8192 * length front → AreAt file at (front ++ page ∷ []) → IsPage (a_page page) (part file here 8192)
stand_last file at here [] page place stand = subst (λ n. IsPage (a_page page) (part file n 8192)) (omega (arith, place)) stand.0
stand_last file at here (p ∷ front) page place stand = stand_last file (at + 8192) here front page (omega (arith, place)) stand.1

pub stand_front : (file : List ℕ) (at : ℕ) (front more : List (List (List ℕ))) → AreAt file at (front ++ more) → AreAt file at front
stand_front file at [] more stand = tt
stand_front file at (p ∷ front) more stand = (stand.0, stand_front file (at + 8192) front more stand.1)

-- ---- what holds of each

pub all_more : {X : Type 0} (P : X → Type 0) (front : List X) (x : X) → AllByRecursion P front → P x → AllByRecursion P (front ++ x ∷ [])
all_more P [] x all is = (is, tt)
all_more P (y ∷ front) x all is = (all.0, all_more P front x all.1 is)

pub all_joined : {X : Type 0} (P : X → Type 0) (front more : List X) → AllByRecursion P front → AllByRecursion P more → AllByRecursion P (front ++ more)
all_joined P [] more all then = then
all_joined P (y ∷ front) more all then = (all.0, all_joined P front more all.1 then)

pub all_last : {X : Type 0} (P : X → Type 0) (front : List X) (x : X) → AllByRecursion P (front ++ x ∷ []) → P x
all_last P [] x all = all.0
all_last P (y ∷ front) x all = all_last P front x all.1

pub all_front : {X : Type 0} (P : X → Type 0) (front more : List X) → AllByRecursion P (front ++ more) → AllByRecursion P front
all_front P [] more all = tt
all_front P (y ∷ front) more all = (all.0, all_front P front more all.1)

-- ---- the rows and first keys of all

pub rows_more : (front : List (List (List ℕ))) (page : List (List ℕ)) → rows_over (front ++ page ∷ []) ≡ rows_over front ++ page
rows_more [] page = append-nil page
rows_more (p ∷ front) page = ap (λ (rows : List (List ℕ)). p ++ rows) (rows_more front page) ∙ sym (append_assoc p (rows_over front) page)

pub rows_front : (front more : List (List (List ℕ))) → rows_over (front ++ more) ≡ rows_over front ++ rows_over more
rows_front [] more = refl
rows_front (p ∷ front) more = ap (λ (rows : List (List ℕ)). p ++ rows) (rows_front front more) ∙ sym (append_assoc p (rows_over front) (rows_over more))

pub keys_more : (key_of : List ℕ → List ℕ) (front : List (List (List ℕ))) (page : List (List ℕ)) → first_keys key_of (front ++ page ∷ []) ≡ first_keys key_of front ++ first_key key_of page ∷ []
keys_more key_of [] page = refl
keys_more key_of (p ∷ front) page = ap (λ (keys : List (List ℕ)). first_key key_of p ∷ keys) (keys_more key_of front page)

-- ---- one list of pages at most

module _ (law : OnePage) (file : List ℕ) where
  same_rows : (bytes : List ℕ) (a b : List (List ℕ)) → IsPage (a_page a) bytes → IsPage (a_page b) bytes → a ≡ b
  same_rows bytes a b is other = ap (λ (p : Page). p.rows) (law (a_page a) (a_page b) bytes is other)

  pub same_pages : (at : ℕ) (a b : List (List (List ℕ))) → AreAt file at a → AreAt file at b → length a ≡ length b → a ≡ b
  same_pages at [] [] stand other many = refl
  same_pages at [] (q ∷ b) stand other many = absurd cc
  same_pages at (p ∷ a) [] stand other many = absurd cc
  same_pages at (p ∷ a) (q ∷ b) stand other many =
      ap (λ (x : List (List ℕ)). x ∷ a) (same_rows (part file at 8192) p q stand.0 other.0) ∙ ap (λ (l : List (List (List ℕ))). q ∷ l) (same_pages (at + 8192) a b stand.1 other.1 (omega (arith, many)))

  -- more pages have fewer ones in front
  pub in_front : (at : ℕ) (a b : List (List (List ℕ))) → AreAt file at a → AreAt file at b → length a < length b → (page : List (List ℕ)) × (rest : List (List (List ℕ))) × (b ≡ (a ++ page ∷ []) ++ rest)
  in_front at a [] stand other fewer = absurd (omega (arith, fewer))
  in_front at [] (q ∷ b) stand other fewer = (q, b, refl)
  in_front at (p ∷ a) (q ∷ b) stand other fewer =
      let found = in_front (at + 8192) a b stand.1 other.1 (omega (arith, fewer)) in
      (found.0, found.1, ap (λ (x : List (List ℕ)). x ∷ b) (same_rows (part file at 8192) q p other.0 stand.0) ∙ ap (λ (l : List (List (List ℕ))). p ∷ l) found.2)
