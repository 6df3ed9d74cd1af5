-- What a reader of pages answers.
use Rattle.std.specs.Prelude.{◌≡◌, ℕ, ◌==◌, ◌&&◌, List, ◌∷◌, length, drop, Option, Some, None, Result, Ok, Err, if◌then◌else◌}
use Rattle.std.specs.List.{list_all}
use Rattle.drda_words.specs.Number.{word}
use Rattle.drda_disk.specs.Layout.{page_bytes}
use Rattle.row_pages.specs.Page.{IsPage, Page}
use Rattle.row_pages.specs.Reading.{has_rows, rows_in, behind_rows}
use Rattle.row_pages.specs.declared.kept.PageFault.{PageFault}
use Rattle.row_pages.specs.declared.kept.PageFault.TheVariants as fault
use Rattle.row_pages.specs.declared.page.Damaged.{Damaged}
use Rattle.row_pages.specs.declared.page.PageKind.{PageKind}
use Rattle.row_pages.specs.declared.page.PageKind.TheVariants.{Catalogue, Rows}

-- the kind that a number is
abbrev pub kind_at : ℕ → Option PageKind
kind_at code = if code == 1 then Some Catalogue else (if code == 2 then Some Rows else None)

-- the page of a kind with so many rows, behind its head
abbrev pub page_behind : Option PageKind → ℕ → List ℕ → Option Page
page_behind None count rest = None
page_behind (Some kind) count rest = if has_rows count rest
    then (if length rest == 8189 && list_all (λ b. b == 0) (behind_rows count rest) then Some (record { kind = kind; rows = rows_in count rest }) else None)
    else None

-- the page that bytes are, read from the front
unfoldable pub page_at : List ℕ → Option Page
page_at (code ∷ high ∷ low ∷ rest) = page_behind (kind_at code) (word high low) rest
page_at bytes = None

-- the page that the bytes are; a fault only where they are none
abbrev pub Parses : List ℕ → Result Page Damaged → Type 0
Parses bytes (Ok page) = IsPage page bytes
Parses bytes (Err e) = (page : Page) → IsPage page bytes → ⊥

-- bytes are one page at most
abbrev pub OnePage : Type 0
OnePage = (p q : Page) (bytes : List ℕ) → IsPage p bytes → IsPage q bytes → p ≡ q

-- what the head says, where the number of bytes is that of a page; none only where they are no page
pub record HasHead (bytes : List ℕ) (kind : PageKind) (count : ℕ) : Type 0 where
  pub same : page_at bytes ≡ page_behind (Some kind) count (drop 3 bytes)
  pub size : length bytes ≡ page_bytes

abbrev pub SaysHead : List ℕ → Option (PageKind × ℕ) → Type 0
SaysHead bytes None = page_at bytes ≡ None
SaysHead bytes (Some head) = HasHead bytes head.0 head.1

-- the same, in memory of its own
abbrev pub ParsesKept : List ℕ → Result Page PageFault → Type 0
ParsesKept bytes (Ok page) = IsPage page bytes
ParsesKept bytes (Err fault.Damaged) = (page : Page) → IsPage page bytes → ⊥
ParsesKept bytes (Err fault.NoMemory) = Unit {0}
ParsesKept bytes (Err fault.DeviceFailed) = ⊥
