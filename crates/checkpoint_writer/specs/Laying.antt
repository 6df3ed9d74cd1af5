-- Rows that are laid into the pages of an image.
use Rattle.std.specs.Prelude.{◌≡◌, ◌⊎◌, ℕ, ◌+◌, ◌*◌, Bool, true, false, IsTrue, List, [], ◌∷◌, ◌++◌, length}
use Rattle.std.specs.List.{AllByRecursion}
use Rattle.drda_words.specs.Place.{part}
use Rattle.drda_disk.specs.Layout.{page_bytes}
use Rattle.row_pages.specs.Page.{Fits, IsPage}
use Rattle.row_pages.specs.Laying.{IsShort, laid, laid_behind}
use Rattle.row_pages.specs.declared.page.PageKind.{PageKind}
use Rattle.half_store.specs.Writing.{next_of}
use Rattle.half_store.specs.declared.image.ImageWriter.{ImageWriter}
use Rattle.checkpoint_writer.specs.declared.rows.RowWriter.{RowWriter}

-- these are the pages of this kind from an offset on, one behind another
abbrev pub StandAt : PageKind → List ℕ → ℕ → List (List (List ℕ)) → Type 0
StandAt kind file at [] = Unit {0}
StandAt kind file at (page ∷ pages) = IsPage (record { kind = kind; rows = page }) (part file at page_bytes) × StandAt kind file (at + page_bytes) pages

abbrev pub has_none : List (List ℕ) → Bool
has_none [] = true
has_none (row ∷ rows) = false

-- Rows that were laid so far into pages from an offset on: those that are full stand there, and what they leave is in
-- the page that is being filled.
pub record IsLaying (modelled : Bool) (file : List ℕ) (start : ℕ) (image : ImageWriter) (writer : RowWriter) (rows : List (List ℕ)) : Type 0 where
  pub full : List (List (List ℕ))
  pub stand : IsTrue modelled → StandAt writer.page.kind file start full
  pub next : next_of image ≡ start + page_bytes * length full
  pub same : (rest : List (List ℕ)) → laid (rows ++ rest) ≡ full ++ laid_behind writer.page.rows rest
  pub empty : writer.is_empty ≡ has_none writer.page.rows
  pub short : AllByRecursion IsShort rows

-- rows that are laid behind those of the page that is being filled begin a page: it has none, or no room for the first
abbrev pub BeginsPage : RowWriter → List (List ℕ) → Type 0
BeginsPage writer [] = ⊥
BeginsPage writer (row ∷ rows) = (writer.is_empty ≡ true) ⊎ (Fits (writer.page.rows ++ row ∷ []) → ⊥)

-- a key more, where there is one
abbrev pub key_if : Bool → List ℕ → List (List ℕ)
key_if true key = key ∷ []
key_if false key = []
