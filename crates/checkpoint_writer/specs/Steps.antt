-- A table that is merged, step by step.
use Rattle.std.specs.Prelude.{◌≡◌, ℕ, ◌+◌, ◌*◌, ◌≤◌, Bool, true, false, IsTrue, List, [], ◌++◌}
use Rattle.drda_disk.specs.Layout.{page_bytes}
use Rattle.key_map.specs.Merging.{Rows}
use Rattle.half_store.specs.declared.image.ImageWriter.{ImageWriter}
use Rattle.table_map.specs.Cursor.{IsLeft}
use Rattle.table_map.specs.Table.{without_keys}
use Rattle.table_map.specs.declared.cursor.RowCursor.{RowCursor}
use Rattle.checkpoint_writer.specs.Writing.{HasLaid}
use Rattle.checkpoint_writer.specs.declared.steps.Merging.{Merging}

-- these rows are the first of those that are left, and others are left behind them
pub record LeavesBehind (key_of : List ℕ → List ℕ) (file : List ℕ) (left : Rows) (rows : List (List ℕ)) (cursor : RowCursor) : Type 0 where
  pub more : Rows
  pub same : without_keys left ≡ rows ++ without_keys more
  pub is : IsLeft key_of file cursor more

-- the next rows of those that are left are laid and noted
pub record GoesOn (modelled : Bool) (key_of : List ℕ → List ℕ) (file file_then : List ℕ) (image image_then : ImageWriter) (old new : Merging) : Type 0 where
  pub rows : List (List ℕ)
  pub left : (left : Rows) → IsTrue modelled → IsLeft key_of file old.cursor left → LeavesBehind key_of file left rows new.cursor
  pub laid : (start : ℕ) (before : List (List ℕ)) → HasLaid modelled key_of file start image old.writer before → HasLaid modelled key_of file_then start image_then new.writer (before ++ rows)
  pub noted : new.noted.listed.value ≡ old.noted.listed.value ++ rows
  pub end : new.cursor.base.at + page_bytes * new.cursor.base.pages ≡ old.cursor.base.at + page_bytes * old.cursor.base.pages
  pub forward : old.cursor.base.at ≤ new.cursor.base.at

-- none was left, and nothing was laid or noted
pub record Ends (modelled : Bool) (key_of : List ℕ → List ℕ) (file file_then : List ℕ) (image image_then : ImageWriter) (old new : Merging) : Type 0 where
  pub left : (left : Rows) → IsTrue modelled → IsLeft key_of file old.cursor left → left ≡ []
  pub laid : (start : ℕ) (before : List (List ℕ)) → HasLaid modelled key_of file start image old.writer before → HasLaid modelled key_of file_then start image_then new.writer before
  pub noted : new.noted.listed.value ≡ old.noted.listed.value

-- the one or the other, as a step tells
abbrev pub Steps : Bool → List ℕ → List ℕ → (List ℕ → List ℕ) → Bool → ImageWriter → ImageWriter → Merging → Merging → Type 0
Steps modelled file file_then key_of true image image_then old new = GoesOn modelled key_of file file_then image image_then old new
Steps modelled file file_then key_of false image image_then old new = Ends modelled key_of file file_then image image_then old new
