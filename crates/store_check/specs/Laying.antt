-- Tables that are laid into the pages of a half, one behind another.
use Rattle.std.specs.Prelude.{◌≡◌, ℕ, ◌+◌, ◌-◌, ◌&&◌, true, List, [], ◌∷◌}
use Rattle.std.specs.Map.{values_of}
use Rattle.drda_disk.specs.Layout.{page_bytes}
use Rattle.key_map.specs.RowForm.{row_form}
use Rattle.row_values.specs.Schema.{is_name}
use Rattle.row_pages.specs.Laying.{laid}
use Rattle.key_map.specs.Merging.{Rows}
use Rattle.tables.specs.Tables.{Store, Table}
use Rattle.tables.specs.View.{is_table}
use Rattle.table_map.specs.Keyed.{first_keys, keyed_rows}
use Rattle.half_store.specs.Writing.{from_of, pages_of}
use Rattle.half_store.specs.declared.image.ImageWriter.{ImageWriter}
use Rattle.store_check.specs.Half.{HalfPages, page_at}
use Rattle.store_check.specs.Written.{WrittenTable}
use Rattle.store_check.specs.Room.{entry_of_table, pages_of_table}

-- a table as a store has it, with its name
abbrev pub IsGood : List ℕ × Table → Type 0
IsGood e = (is_name e.0 && is_table e.1) ≡ true

-- the rows of a table, each at the sort form of its key
abbrev pub rows_under : Table → Rows
rows_under t = keyed_rows (row_form t.schema) (values_of t.rows)

-- a table whose first page has this number, in a half whose pages begin at this offset
abbrev pub laid_at : ℕ → ℕ → List ℕ × Table → WrittenTable
laid_at at next e = record { entry = entry_of_table next e; rows = rows_under e.1; places = record { at = page_at at next; keys = first_keys (row_form e.1.schema) (laid (values_of e.1.rows)) } }

-- tables one behind another, from the page with this number on
abbrev pub laid_from : ℕ → ℕ → Store → List WrittenTable
laid_from at next [] = []
laid_from at next (e ∷ es) = laid_at at next e ∷ laid_from at (next + pages_of_table e.1) es

-- the pages of an image, of which those from this one on are its catalogue's
abbrev pub pages_with : ImageWriter → ℕ → HalfPages
pages_with w first = record { at = from_of w + page_bytes; count = pages_of w; first_catalogue = first; catalogue_pages = pages_of w - first }
