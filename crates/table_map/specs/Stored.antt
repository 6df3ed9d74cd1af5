-- A table's rows on its pages.
use Rattle.std.specs.Prelude.{◌≡◌, ℕ, ◌+◌, List, [], ◌∷◌}
use Rattle.std.specs.List.{AllByRecursion}
use Rattle.drda_words.specs.Place.{part}
use Rattle.drda_disk.specs.Layout.{page_bytes}
use Rattle.row_pages.specs.Page.{IsPage}
use Rattle.row_pages.specs.Laying.{HasSome, rows_over}
use Rattle.row_pages.specs.declared.page.PageKind.TheVariants as kind
use Rattle.key_map.specs.Merging.{InOrder}
use Rattle.table_map.specs.Keyed.{keyed_rows, first_keys}

-- where the pages lie, and the key of each page's first row
pub record Places : Type 0 where
  pub at : ℕ
  pub keys : List (List ℕ)

-- these are the pages of rows from an offset on, one behind another
abbrev pub AreAt : List ℕ → ℕ → List (List (List ℕ)) → Type 0
AreAt file at [] = Unit {0}
AreAt file at (page ∷ pages) = IsPage (record { kind = kind.Rows; rows = page }) (part file at page_bytes) × AreAt file (at + page_bytes) pages

-- the pages stand there, each has rows, and the keys of all rows rise
pub record IsStored (key_of : List ℕ → List ℕ) (places : Places) (pages : List (List (List ℕ))) (file : List ℕ) : Type 0 where
  pub stand : AreAt file places.at pages
  pub some : AllByRecursion HasSome pages
  pub first : places.keys ≡ first_keys key_of pages
  pub order : InOrder (keyed_rows key_of (rows_over pages))
