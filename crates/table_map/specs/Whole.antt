-- Pages that are given whole.
use Rattle.std.specs.Prelude.{◌≡◌, ℕ, ◌+◌, ◌-◌, ◌<◌, ◌≤◌, List, [], ◌∷◌, ◌++◌, Option, Some, None, length}
use Rattle.std.specs.List.{slice_get}
use Rattle.std.proofs.Common.{Greater}
use Rattle.row_pages.specs.Page.{Page}
use Rattle.key_map.specs.Merging.{Rows}
use Rattle.table_map.specs.Cursor.{IsLeft, weight}
use Rattle.table_map.specs.Keyed.{keyed_rows}
use Rattle.table_map.specs.Passing.{order_to}
use Rattle.table_map.specs.declared.cursor.RowCursor.{RowCursor}

-- there is a first row, and in a page it takes more than this room, with two bytes for its length
abbrev pub TakesMore : ℕ → List (List ℕ) → Type 0
TakesMore room [] = ⊥
TakesMore room (row ∷ rows) = room < 2 + length row

-- the first row takes more than this room, and no change comes before the last one or in its place
pub record StandsApart (key_of : List ℕ → List ℕ) (room : ℕ) (rows : List (List ℕ)) (changes : Rows) : Type 0 where
  pub first : TakesMore room rows
  pub last : (row : List ℕ) → slice_get rows (length rows - 1) ≡ Some row → order_to (key_of row) changes ≡ Greater

-- these are the first of the rows that are left, under their keys, and others are left behind them
pub record GoesBehind (key_of : List ℕ → List ℕ) (file : List ℕ) (left : Rows) (rows : List (List ℕ)) (cursor : RowCursor) : Type 0 where
  pub more : Rows
  pub same : left ≡ keyed_rows key_of rows ++ more
  pub is : IsLeft key_of file cursor more

-- the rows of a page are given, the first of those that are left; without one all are left
abbrev pub GivesPage : (List ℕ → List ℕ) → List ℕ → Rows → Option Page → RowCursor → Type 0
GivesPage key_of file left None cursor = IsLeft key_of file cursor left
GivesPage key_of file left (Some page) cursor = GoesBehind key_of file left page.rows cursor

-- less is left where a page was given, and nowhere more
abbrev pub FallsBy : Option Page → RowCursor → RowCursor → Type 0
FallsBy None old new = weight new ≤ weight old
FallsBy (Some page) old new = weight new < weight old
