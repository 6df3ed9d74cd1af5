-- Going over the rows of a table in the order of their keys.
use Rattle.std.specs.Prelude.{◌≡◌, ℕ, ◌+◌, ◌*◌, ◌^◌, ◌<◌, ◌≤◌, Bool, List, [], ◌∷◌, ◌++◌, Option, Some, None, Result, IfOk, IsTrue, length, map}
use Rattle.std.specs.Borrow.{Bor}
use Rattle.std.specs.Ordering.{match_ordering}
use Rattle.drda_disk.specs.Layout.{page_bytes}
use Rattle.key_map.specs.Slots.{by_bytes}
use Rattle.row_pages.specs.Laying.{rows_over}
use Rattle.row_pages.specs.declared.kept.PageFault.{PageFault}
use Rattle.key_map.specs.Merging.{Rows, InOrder, merged}
use Rattle.key_map.specs.Overlay.{change_of, said}
use Rattle.table_map.specs.Keyed.{keyed_rows}
use Rattle.table_map.specs.Stored.{AreAt}
use Rattle.table_map.specs.declared.cursor.Place.{Place}
use Rattle.table_map.specs.declared.cursor.Place.TheVariants as place
use Rattle.table_map.specs.declared.cursor.RowCursor.{RowCursor}
use Rattle.table_map.specs.declared.cursor.Smaller.{Smaller}
use Rattle.table_map.specs.declared.cursor.Smaller.TheVariants as smaller
use Rattle.table_map.specs.declared.cursor.Step.{Step}
use Rattle.table_map.specs.declared.cursor.Step.TheVariants as step

-- these rows are left, under their keys: what the changes that are left make of the rows that were read and of those on
-- the pages that come, as a disk with these bytes reads them
pub record IsLeft (key_of : List ℕ → List ℕ) (file : List ℕ) (cursor : RowCursor) (left : Rows) : Type 0 where
  pub pages : List (List (List ℕ))
  pub stand : AreAt file cursor.base.at pages
  pub many : length pages ≡ cursor.base.pages
  pub order : InOrder (keyed_rows key_of (cursor.base.rows ++ rows_over pages))
  pub rising : InOrder (map change_of cursor.changes)
  pub same : left ≡ merged (keyed_rows key_of (cursor.base.rows ++ rows_over pages)) (map change_of cursor.changes)

-- these rows are left behind this one
pub record GoesOn (key_of : List ℕ → List ℕ) (file : List ℕ) (left : Rows) (row : List ℕ) (cursor : RowCursor) : Type 0 where
  pub key : List ℕ
  pub more : Rows
  pub same : left ≡ (key, row) ∷ more
  pub is : IsLeft key_of file cursor more

-- the first of the rows that are left is given, and none where none is left
abbrev pub GivesFirst : (List ℕ → List ℕ) → List ℕ → Rows → Option (Bor (List ℕ)) → RowCursor → Type 0
GivesFirst key_of file left None cursor = left ≡ []
GivesFirst key_of file left (Some row) cursor = GoesOn key_of file left row.now cursor

-- ---- where a row lies

-- the row at a place
abbrev pub row_in_place : Place → RowCursor → Option (List ℕ)
row_in_place place.Page cursor = cursor.base.last
row_in_place (place.Change row) cursor = Some row.now

-- there is this row, and those behind it are left
abbrev pub GoesOnWith : (List ℕ → List ℕ) → List ℕ → Rows → Option (List ℕ) → RowCursor → Type 0
GoesOnWith key_of file left None cursor = ⊥
GoesOnWith key_of file left (Some row) cursor = GoesOn key_of file left row cursor

abbrev pub GoesOnAt : (List ℕ → List ℕ) → List ℕ → Rows → Place → RowCursor → Type 0
GoesOnAt key_of file left at cursor = GoesOnWith key_of file left (row_in_place at cursor) cursor

-- the first of the rows that are left lies at a place, and at none where none is left
abbrev pub FindsFirst : (List ℕ → List ℕ) → List ℕ → Rows → Option Place → RowCursor → Type 0
FindsFirst key_of file left None cursor = left ≡ []
FindsFirst key_of file left (Some at) cursor = GoesOnAt key_of file left at cursor

-- what is found at a place
abbrev pub row_found : Option Place → RowCursor → Option (List ℕ)
row_found None cursor = None
row_found (Some at) cursor = row_in_place at cursor

-- ---- step by step

-- whose key comes first
abbrev pub smaller_of : (List ℕ → List ℕ) → List (List ℕ) → Rows → Smaller
smaller_of key_of [] [] = smaller.End
smaller_of key_of [] (e ∷ es) = smaller.Change
smaller_of key_of (row ∷ rows) [] = smaller.Row
smaller_of key_of (row ∷ rows) (e ∷ es) = match_ordering (by_bytes e.0 (key_of row)) smaller.Change smaller.Both smaller.Row

-- what became of the rows that are left: none was left, the first was given, or there was a mark and all are left
abbrev pub Steps : (List ℕ → List ℕ) → List ℕ → Rows → Step → RowCursor → Type 0
Steps key_of file left step.End cursor = left ≡ []
Steps key_of file left (step.Row at) cursor = GoesOnAt key_of file left at cursor
Steps key_of file left step.Skip cursor = IsLeft key_of file cursor left

-- falls with each row and each change that is given, and with each page that is read
abbrev pub weight : RowCursor → ℕ
weight cursor = cursor.base.pages * 2 ^ 64 + (length cursor.base.rows + length cursor.changes)

abbrev pub Falls : Step → RowCursor → RowCursor → Type 0
Falls step.End old new = Unit {0}
Falls other old new = weight new < weight old

abbrev pub FallsAt : {T : Type 0} → Option T → RowCursor → RowCursor → Type 0
FallsAt None old new = Unit {0}
FallsAt (Some row) old new = weight new < weight old

-- what an entry gives: a row of no bytes stands for one that was taken out
abbrev pub SaysStep : Option (Bor (List ℕ) × Bor (List ℕ)) → Step → Type 0
SaysStep None made = made ≡ step.End
SaysStep (Some e) step.End = ⊥
SaysStep (Some e) (step.Row place.Page) = ⊥
SaysStep (Some e) (step.Row (place.Change row)) = (said e.1.now ≡ Some row.now)
SaysStep (Some e) step.Skip = (said e.1.now ≡ None)

-- ---- what a row that is lent leaves behind

-- the first of the rows that are left was given, of a disk with these bytes, and the pages that come end where they ended
pub record HasGiven (modelled : Bool) (key_of : List ℕ → List ℕ) (file : List ℕ) (old : RowCursor) (result : Result (Option (Bor (List ℕ))) PageFault) (new : RowCursor) : Type 0 where
  pub gives : (left : Rows) → IsTrue modelled → IsLeft key_of file old left → IfOk result (λ row. GivesFirst key_of file left row new)
  pub end : new.base.at + page_bytes * new.base.pages ≡ old.base.at + page_bytes * old.base.pages
  pub forward : old.base.at ≤ new.base.at
  pub fewer : IfOk result (λ row. FallsAt row old new)
