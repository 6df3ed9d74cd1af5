-- Rows laid into pages: a page ends only where the next row does not fit.
use Rattle.std.specs.Prelude.{◌≡◌, ◌≤◌, ◌+◌, ◌^◌, ◌-◌, ℕ, Bool, true, false, List, [], ◌∷◌, ◌++◌, length, min, nat_le, Option, Some, None, if◌then◌else◌}
use Rattle.std.specs.List.{AllByRecursion}
use Rattle.std.specs.Global.{Vec}
use Rattle.drda_disk.specs.Layout.{page_bytes}
use Rattle.row_pages.specs.Page.{Fits, IsPage, Page, rows_bytes}

-- whether rows stand in one page
abbrev pub fits : List (List ℕ) → Bool
fits rows = nat_le (3 + length (rows_bytes rows)) page_bytes

-- a row that fits into a page
abbrev pub IsShort : List ℕ → Type 0
IsShort row = length row ≤ 8187

-- ---- what pages of rows are

abbrev pub HasSome : List (List ℕ) → Type 0
HasSome [] = ⊥
HasSome (row ∷ rows) = Unit {0}

-- a page could not take the first of the rows that follow it
abbrev pub EndsBefore : List (List ℕ) → List (List ℕ) → Type 0
EndsBefore page [] = Unit {0}
EndsBefore page (row ∷ rows) = Fits (page ++ row ∷ []) → ⊥

-- all rows of the pages, in order
abbrev pub rows_over : List (List (List ℕ)) → List (List ℕ)
rows_over [] = []
rows_over (page ∷ pages) = page ++ rows_over pages

-- each page has rows and is a page, and none could take the first row of the next
abbrev pub AreFilled : List (List (List ℕ)) → Type 0
AreFilled [] = Unit {0}
AreFilled (page ∷ pages) = HasSome page × Fits page × EndsBefore page (rows_over pages) × AreFilled pages

-- the pages have these rows and no others, in their order, and each is as full as it can be
pub record IsLaid (rows : List (List ℕ)) (pages : List (List (List ℕ))) : Type 0 where
  pub same : rows_over pages ≡ rows
  pub filled : AreFilled pages

-- ---- the pages of rows

-- a last page, where there are rows for one
abbrev pub ended : List (List ℕ) → List (List (List ℕ))
ended [] = []
ended (row ∷ rows) = (row ∷ rows) ∷ []

-- rows laid behind those that a page has already
abbrev pub laid_behind : List (List ℕ) → List (List ℕ) → List (List (List ℕ))
laid_behind page [] = ended page
laid_behind page (row ∷ rows) = if fits (page ++ row ∷ []) then laid_behind (page ++ row ∷ []) rows else page ∷ laid_behind (row ∷ []) rows

abbrev pub laid : List (List ℕ) → List (List (List ℕ))
laid rows = laid_behind [] rows

abbrev pub Laying : Type 0
Laying = (rows : List (List ℕ)) → AllByRecursion IsShort rows → IsLaid rows (laid rows)

abbrev pub OneLaying : Type 0
OneLaying = (rows : List (List ℕ)) (pages : List (List (List ℕ))) → IsLaid rows pages → pages ≡ laid rows

-- ---- laying row by row

-- the row stands behind the others of the page, or first in the next one where it does not fit; then the page is given out
abbrev pub Lays : List ℕ → Page → Option (Vec ℕ) → Page → Type 0
Lays row old None new = (fits (old.rows ++ row ∷ []) ≡ true) × (new ≡ record { kind = old.kind; rows = old.rows ++ row ∷ [] })
Lays row old (Some bytes) new = (fits (old.rows ++ row ∷ []) ≡ false) × IsPage old bytes.items × (new ≡ record { kind = old.kind; rows = row ∷ [] })

-- pages that are full, and the bytes of the rows in the last one
pub record Count : Type 0 where
  pub full : ℕ
  pub filled : ℕ

-- how many pages rows take, the last of which has that many bytes of rows already
abbrev pub last_count : ℕ → ℕ
last_count n = if nat_le 1 n then 1 else 0

abbrev pub count_behind : ℕ → List (List ℕ) → ℕ
count_behind n [] = last_count n
count_behind n (row ∷ rows) = if nat_le (3 + (n + 2 + length row)) page_bytes then count_behind (n + 2 + length row) rows else 1 + count_behind (2 + length row) rows

-- as a number of 64 bits, which stops at the greatest
abbrev pub counted : ℕ → ℕ
counted n = min n (2 ^ 64 - 1)

-- how many pages there are with these rows behind those that were counted
abbrev pub pages_with : Count → List (List ℕ) → ℕ
pages_with count rows = counted (count.full + count_behind count.filled rows)
