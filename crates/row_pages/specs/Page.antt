-- Pages of rows, of 8,192 bytes: the kind, the number of rows in two bytes, each row behind its length in two
-- bytes, and zeros up to the end.
use Rattle.std.specs.Prelude.{◌≡◌, ◌≤◌, ◌+◌, ◌-◌, ℕ, List, [], ◌∷◌, ◌++◌, length, replicate}
use Rattle.std.specs.Int.{to_be_bytes, w16}
use Rattle.drda_disk.specs.Layout.{page_bytes}
use Rattle.row_pages.specs.declared.page.PageKind.{PageKind}
use Rattle.row_pages.specs.declared.page.PageKind.TheVariants.{Catalogue, Rows}

-- a page, by what it holds
pub record Page : Type 0 where
  pub kind : PageKind
  pub rows : List (List ℕ)

abbrev pub code_of : PageKind → ℕ
code_of Catalogue = 1
code_of Rows = 2

-- a row as a page has it
abbrev pub row_bytes : List ℕ → List ℕ
row_bytes row = to_be_bytes w16 (length row) ++ row

abbrev pub rows_bytes : List (List ℕ) → List ℕ
rows_bytes [] = []
rows_bytes (row ∷ rows) = row_bytes row ++ rows_bytes rows

-- rows that stand in one page, behind its three bytes
abbrev pub Fits : List (List ℕ) → Type 0
Fits rows = 3 + length (rows_bytes rows) ≤ page_bytes

abbrev pub written_page : Page → List ℕ
written_page p = code_of p.kind ∷ (to_be_bytes w16 (length p.rows) ++ (rows_bytes p.rows ++ replicate (8189 - length (rows_bytes p.rows)) 0))

-- bytes are that page
pub record IsPage (page : Page) (bytes : List ℕ) : Type 0 where
  pub fits : Fits page.rows
  pub same : bytes ≡ written_page page
