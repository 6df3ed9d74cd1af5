-- A table that is written anew.
use Rattle.std.specs.Prelude.{◌≡◌, ◌⊎◌, ℕ, ◌+◌, ◌*◌, ◌≤◌, List, length}
use Rattle.std.specs.List.{AllByRecursion}
use Rattle.drda_disk.specs.Layout.{page_bytes}
use Rattle.row_pages.specs.Laying.{IsShort, laid, rows_over}
use Rattle.key_map.specs.Merging.{Rows}
use Rattle.table_map.specs.Keyed.{keyed_rows}
use Rattle.table_map.specs.Stored.{Places, IsStored}
use Rattle.table_map.specs.Table.{without_keys}
use Rattle.half_store.specs.Writing.{from_of}
use Rattle.half_store.specs.declared.image.ImageWriter.{ImageWriter}
use Rattle.checkpoint_writer.specs.Adding.{end_of_half}

-- the pages of a table lie outside of the half that is written
abbrev pub LieApart : Places → ImageWriter → Type 0
LieApart places w = (places.at + page_bytes * length places.keys ≤ from_of w) ⊎ (end_of_half w ≤ places.at)

-- each row stands under the key that it has
abbrev pub HaveKeys : (List ℕ → List ℕ) → Rows → Type 0
HaveKeys key_of rows = keyed_rows key_of (without_keys rows) ≡ rows

-- the table has these rows and no others, laid so that a page ends only where the next row does not fit
pub record IsImageOf (key_of : List ℕ → List ℕ) (rows : Rows) (places : Places) (file : List ℕ) : Type 0 where
  pub stored : IsStored key_of places (laid (without_keys rows)) file
  pub same : keyed_rows key_of (rows_over (laid (without_keys rows))) ≡ rows
  pub short : AllByRecursion IsShort (without_keys rows)
