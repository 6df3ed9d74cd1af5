-- Where a table is damaged.
use Rattle.std.specs.Prelude.{◌≡◌, ℕ, suc, ◌+◌, ◌*◌, ◌<◌, List, [], length, Result, Err}
use Rattle.drda_words.specs.Place.{part}
use Rattle.drda_disk.specs.Layout.{page_bytes}
use Rattle.row_pages.specs.Page.{IsPage, Page}
use Rattle.row_pages.specs.declared.kept.PageFault.{PageFault}
use Rattle.row_pages.specs.declared.kept.PageFault.TheVariants.{Damaged}
use Rattle.table_map.specs.Places.{IsPlace}
use Rattle.table_map.specs.Stored.{IsStored, Places}

abbrev pub IsNoPage : List ℕ → Type 0
IsNoPage bytes = (page : Page) → IsPage page bytes → ⊥

-- no page, or one without rows
abbrev pub HasNoRows : List ℕ → Type 0
HasNoRows bytes = (page : Page) → IsPage page bytes → page.rows ≡ []

-- the bytes of one of so many pages from an offset on, the one with this number from 0, are so
pub record SomePage (P : List ℕ → Type 0) (file : List ℕ) (at count : ℕ) : Type 0 where
  pub number : ℕ
  pub within : number < count
  pub is : P (part file (at + page_bytes * number) page_bytes)

-- the page whose first key is the last that this key does not come before is no page
pub record LacksPage (key : List ℕ) (places : Places) (file : List ℕ) : Type 0 where
  pub number : ℕ
  pub place : IsPlace key places.keys (suc number)
  pub none : IsNoPage (part file (places.at + page_bytes * number) page_bytes)

-- damage is told only where this holds
abbrev pub DamagedWhere : {T : Type 0} → Type 0 → Result T PageFault → Type 0
DamagedWhere P (Err Damaged) = P
DamagedWhere P other = Unit {0}

-- ---- laws

-- of a table that stands there no damage is told
abbrev pub StoredIsWhole : Type 0
StoredIsWhole = (key_of : List ℕ → List ℕ) (places : Places) (pages : List (List (List ℕ))) (file : List ℕ) → IsStored key_of places pages file → SomePage HasNoRows file places.at (length places.keys) → ⊥

-- nor of the page of a key
abbrev pub StoredHasPage : Type 0
StoredHasPage = (key_of : List ℕ → List ℕ) (key : List ℕ) (places : Places) (pages : List (List (List ℕ))) (file : List ℕ) → IsStored key_of places pages file → LacksPage key places file → ⊥
