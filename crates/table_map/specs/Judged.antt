-- What is known of rows of pages that were judged, whatever the device gives back.
use Rattle.std.specs.Prelude.{◌≡◌, ◌⊎◌, ℕ, ◌-◌, ◌<◌, true, List, ◌++◌, length, Option, Some, None}
use Rattle.std.specs.List.{AllByRecursion, list_all, slice_get}
use Rattle.std.proofs.Common.{Less, Equal, Greater}
use Rattle.drda_words.specs.Bytes.{AreBytes}
use Rattle.key_map.specs.Slots.{by_bytes}
use Rattle.key_map.specs.Merging.{Changes, InOrder, Rows, merged, row_at}
use Rattle.row_pages.specs.Judging.{AreJudged}
use Rattle.row_values.specs.Row.{is_row}
use Rattle.row_values.specs.Schema.{Schema}
use Rattle.table_map.specs.Keyed.{keyed_rows}
use Rattle.table_map.specs.Passing.{Passes}
use Rattle.table_map.specs.Table.{without_keys}

-- rows of the schema whose keys rise are in order by their keys here
abbrev pub RiseByKeys : (List ℕ → List ℕ) → Schema → Type 0
RiseByKeys key_of schema = (rows : List (List ℕ)) → AreJudged schema rows → InOrder (keyed_rows key_of rows)

-- a key comes before the end, if there is one
abbrev pub ComesBefore : List ℕ → Option (List ℕ) → Type 0
ComesBefore key None = Unit {0}
ComesBefore key (Some end) = by_bytes key end ≡ Less

-- the first row's key does not come before the one that it should have, and the last row's comes before the next page's
pub record LieWithin (key_of : List ℕ → List ℕ) (low : List ℕ) (end : Option (List ℕ)) (rows : List (List ℕ)) : Type 0 where
  pub first : (row : List ℕ) → slice_get rows 0 ≡ Some row → by_bytes low (key_of row) ≡ Greater → ⊥
  pub last : (row : List ℕ) → slice_get rows (length rows - 1) ≡ Some row → ComesBefore (key_of row) end

-- the rows of a page that were judged, and lie where they should, were put behind others, with the changes among them
pub record PassesJudged (key_of : List ℕ → List ℕ) (schema : Schema) (low : List ℕ) (end : Option (List ℕ)) (old_changes new_changes : Rows) (old new : List (List ℕ)) : Type 0 where
  pub page : List (List ℕ)
  pub some : 0 < length page
  pub judged : AreJudged schema page
  pub within : LieWithin key_of low end page
  pub passes : Passes key_of page old_changes new_changes old new

-- rows of the schema, in the order of their keys, were put behind others, with all changes among them
pub record IsScanned (key_of : List ℕ → List ℕ) (schema : Schema) (changes : Changes) (old new : List (List ℕ)) : Type 0 where
  pub base : List (List ℕ)
  pub order : InOrder (keyed_rows key_of base)
  pub rows : list_all (is_row schema) base ≡ true
  pub bytes : AllByRecursion AreBytes base
  pub rising : InOrder changes
  pub same : new ≡ old ++ without_keys (merged (keyed_rows key_of base) changes)

-- ---- one row

-- one of these rows, whose key is this one
pub record IsFound (key_of : List ℕ → List ℕ) (key : List ℕ) (rows : List (List ℕ)) (row : List ℕ) : Type 0 where
  pub number : ℕ
  pub is : slice_get rows number ≡ Some row
  pub same : by_bytes key (key_of row) ≡ Equal

-- a row of the schema, as bytes have it, whose key is this one
pub record IsRowOf (key_of : List ℕ → List ℕ) (schema : Schema) (key row : List ℕ) : Type 0 where
  pub good : is_row schema row ≡ true
  pub bytes : AreBytes row
  pub same : by_bytes key (key_of row) ≡ Equal

-- the row that the changes have at the key, or one of the schema whose key it is
abbrev pub IsKnown : (List ℕ → List ℕ) → Schema → List ℕ → Changes → List ℕ → Type 0
IsKnown key_of schema key changes row = (row_at key changes ≡ Some (Some row)) ⊎ IsRowOf key_of schema key row
