-- A table: its pages, and the changes since they were written.
use Rattle.std.specs.Prelude.{ℕ, List, map}
use Rattle.key_map.specs.Slots.{Slots}
use Rattle.row_pages.specs.Laying.{rows_over}
use Rattle.key_map.specs.Merging.{Rows, merged}
use Rattle.key_map.specs.Overlay.{changes_of}
use Rattle.table_map.specs.Keyed.{keyed_rows}
use Rattle.table_map.specs.Stored.{Places}

pub record Table : Type 0 where
  pub places : Places
  pub overlay : Slots

-- the rows of a table that has these pages
abbrev pub rows_of_table : (List ℕ → List ℕ) → Table → List (List (List ℕ)) → Rows
rows_of_table key_of table pages = merged (keyed_rows key_of (rows_over pages)) (changes_of table.overlay)

abbrev pub without_keys : Rows → List (List ℕ)
without_keys rows = map (λ e. e.1) rows
