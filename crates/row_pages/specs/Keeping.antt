-- Pages that are kept in memory.
use Rattle.std.specs.Prelude.{◌≡◌, ◌≤◌, ◌+◌, ℕ, List, length, drop, true, Option, Some, None, Result, Ok, Err, Contains}
use Rattle.drda_words.specs.Place.{part}
use Rattle.drda_disk.specs.declared.errors.DiskError.{DiskError}
use Rattle.drda_disk.specs.declared.errors.DiskError.TheVariants as read
use Rattle.drda_disk.specs.Layout.{page_bytes}
use Rattle.row_pages.specs.Page.{IsPage, Page, rows_bytes}
use Rattle.row_pages.specs.Reading.{has_rows, rows_in, row_starts}
use Rattle.row_pages.specs.declared.page.PageKind.{PageKind}
use Rattle.row_pages.specs.declared.kept.PageFault.{PageFault}
use Rattle.row_pages.specs.declared.kept.PageFault.TheVariants.{NoMemory, DeviceFailed, Damaged}

-- so many rows stand behind the three bytes of a page's head
pub record HoldsRows (count : ℕ) (bytes : List ℕ) : Type 0 where
  pub head : 3 ≤ length bytes
  pub has : has_rows count (drop 3 bytes) ≡ true

-- and these are the places where they begin
pub record KeepsStarts (starts bytes : List ℕ) : Type 0 where
  pub rows : HoldsRows (length starts) bytes
  pub same : starts ≡ row_starts 3 (length starts) bytes

-- the page of this kind with so many rows
abbrev pub page_with : PageKind × ℕ → List ℕ → Page
page_with head bytes = record { kind = head.0; rows = rows_in head.1 (drop 3 bytes) }

-- the head of the page that bytes are; none only where they are no page
abbrev pub Judges : List ℕ → Option (PageKind × ℕ) → Type 0
Judges bytes None = (page : Page) → IsPage page bytes → ⊥
Judges bytes (Some head) = IsPage (page_with head bytes) bytes × HoldsRows head.1 bytes

-- bytes are the page of this kind with so many rows, which begin at these places, and the last of which ends here
pub record KeepsPage (kind : PageKind) (starts bytes : List ℕ) (end : ℕ) : Type 0 where
  pub places : KeepsStarts starts bytes
  pub is : IsPage (page_with (kind, length starts) bytes) bytes
  pub ends : end ≡ 3 + length (rows_bytes (rows_in (length starts) (drop 3 bytes)))

-- the pages that are kept, by their places
abbrev pub Kept : Type 0
Kept = List (ℕ × Page)

-- each page kept is what a disk with these bytes reads at its place
pub record AreRead (kept : Kept) (file : List ℕ) : Type 0 where
  pub each : (e : ℕ × Page) → Contains kept e → IsPage e.1 (part file e.0 page_bytes)

-- no page kept begins in front of one offset, or behind another
pub record BeginWithin (first last : ℕ) (kept : Kept) : Type 0 where
  pub each : (e : ℕ × Page) → Contains kept e → (first ≤ e.0) × (e.0 ≤ last)

-- the fault of a read, as one of a page
abbrev pub fault_of : DiskError → PageFault
fault_of read.NoMemory = NoMemory
fault_of read.DeviceFailed = DeviceFailed

-- damage is told only of bytes that are no page
abbrev pub TellsDamage : {T : Type 0} → List ℕ → Result T PageFault → Type 0
TellsDamage bytes (Err Damaged) = (page : Page) → IsPage page bytes → ⊥
TellsDamage bytes other = Unit {0}

-- the device has failed once more exactly where that is told
abbrev pub CountsPageFault : {T : Type 0} → Result T PageFault → ℕ → ℕ → Type 0
CountsPageFault (Ok x) old new = new ≡ old
CountsPageFault (Err NoMemory) old new = new ≡ old
CountsPageFault (Err Damaged) old new = new ≡ old
CountsPageFault (Err DeviceFailed) old new = new ≡ old + 1
