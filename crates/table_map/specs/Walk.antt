-- Lists whose first element is looked at or taken.
use Rattle.std.specs.Prelude.{◌≡◌, ◌⊎◌, ℕ, zero, suc, ◌+◌, List, [], ◌∷◌, Option, Some, None}
use Rattle.std.specs.Borrow.{Bor}
use Rattle.std.specs.List.{slice_get}
use Rattle.drda_words.specs.Place.{part}
use Rattle.drda_disk.specs.Layout.{page_bytes}
use Rattle.row_pages.specs.Page.{IsPage, Page}
use Rattle.row_pages.specs.declared.page.PageKind.TheVariants as kind
use Rattle.key_map.specs.Merging.{Rows}

-- where the next page lies, how many come, the rows that are left of the page that was read, and the one of it that was
-- given last
pub record PagesLeft : Type 0 where
  pub at : ℕ
  pub pages : ℕ
  pub rows : List (List ℕ)
  pub last : Option (List ℕ)

-- the rows of the page that was read
abbrev pub page_rows : Option Page → List (List ℕ)
page_rows None = []
page_rows (Some page) = page.rows

-- the last of the first n rows
abbrev pub last_of : ℕ → List (List ℕ) → Option (List ℕ)
last_of zero rows = None
last_of (suc n) rows = slice_get rows n

-- all rows of the page were given only where no page comes
abbrev pub IsLoaded : PagesLeft → Type 0
IsLoaded left = left.rows ≡ [] → left.pages ≡ 0

-- the next page was read: its rows are left now, and the pages behind it
pub record ReadsPage (file : List ℕ) (old new : PagesLeft) : Type 0 where
  pub none : old.rows ≡ []
  pub at : new.at ≡ old.at + page_bytes
  pub pages : old.pages ≡ suc new.pages
  pub rows : (rows : List (List ℕ)) → IsPage (record { kind = kind.Rows; rows = rows }) (part file old.at page_bytes) → new.rows ≡ rows

-- nothing is read, or the rows of the page that came, as a disk with these bytes reads it
abbrev pub Loads : List ℕ → PagesLeft → PagesLeft → Type 0
Loads file old new = (new ≡ old) ⊎ ReadsPage file old new

abbrev pub IsFirstRow : List (List ℕ) → Option (Bor (List ℕ)) → Type 0
IsFirstRow rows None = rows ≡ []
IsFirstRow rows (Some row) = (more : List (List ℕ)) × (rows ≡ row.now ∷ more)

-- the first row is given, where there is one
abbrev pub GivesRow : List (List ℕ) → PagesLeft → Type 0
GivesRow [] new = new.rows ≡ []
GivesRow (row ∷ rows) new = (new.rows ≡ rows) × (new.last ≡ Some row)

-- the page that was read is given, where none of its rows was
abbrev pub TakesPage : PagesLeft → Option Page → PagesLeft → Type 0
TakesPage old None new = new ≡ old
TakesPage old (Some page) new = (old.rows ≡ page.rows) × (new ≡ record { at = old.at; pages = old.pages; rows = []; last = None })

abbrev pub IsFirstEntry : Rows → Option (Bor (List ℕ) × Bor (List ℕ)) → Type 0
IsFirstEntry entries None = entries ≡ []
IsFirstEntry entries (Some e) = (more : Rows) × (entries ≡ (e.0.now, e.1.now) ∷ more)

abbrev pub TakesEntry : Rows → Option (Bor (List ℕ) × Bor (List ℕ)) → Rows → Type 0
TakesEntry old None new = (old ≡ []) × (new ≡ [])
TakesEntry old (Some e) new = old ≡ (e.0.now, e.1.now) ∷ new

-- an entry that was taken from an iterator, before those that it has left
abbrev pub before : Option (Bor (List ℕ) × Bor (List ℕ)) → Rows → Rows
before None rest = rest
before (Some e) rest = (e.0.now, e.1.now) ∷ rest

-- without one there is none left
abbrev pub IsLast : Option (Bor (List ℕ) × Bor (List ℕ)) → Rows → Type 0
IsLast None rest = rest ≡ []
IsLast (Some e) rest = Unit {0}
