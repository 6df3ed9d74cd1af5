-- A table's pages: whole, or damaged from a page on.
use Rattle.std.specs.Prelude.{◌≡◌, ℕ, true, List, length, Result, Ok, Err}
use Rattle.std.specs.List.{AllByRecursion}
use Rattle.drda_words.specs.Bytes.{AreBytes}
use Rattle.row_values.specs.Schema.{Schema}
use Rattle.row_values.specs.Row.{is_row}
use Rattle.row_pages.specs.Laying.{HasSome, rows_over}
use Rattle.key_map.specs.Merging.{InOrder}
use Rattle.table_map.specs.Keyed.{first_keys, keyed_rows}
use Rattle.table_map.specs.Stored.{AreAt, IsStored, Places}
use Rattle.table_map.specs.declared.noted.NotedPages.{NotedPages}
use Rattle.store_check.specs.Breaking.{BreaksAt}
use Rattle.store_check.specs.declared.errors.CheckError.{CheckError}
use Rattle.store_check.specs.declared.errors.CheckError.TheVariants.{NoMemory, DeviceFailed, Damaged}

-- each row is one of the schema, and their keys rise
pub record AreRows (schema : Schema) (key_of : List ℕ → List ℕ) (rows : List (List ℕ)) : Type 0 where
  pub fit : AllByRecursion (λ row. is_row schema row ≡ true) rows
  pub bytes : AllByRecursion AreBytes rows
  pub order : InOrder (keyed_rows key_of rows)

-- these pages of rows stand from an offset on, none is without rows, each row is one of the schema, and the keys of all
-- rows rise, over the borders of pages too
pub record AreWhole (schema : Schema) (key_of : List ℕ → List ℕ) (file : List ℕ) (at : ℕ) (pages : List (List (List ℕ))) : Type 0 where
  pub stand : AreAt file at pages
  pub some : AllByRecursion HasSome pages
  pub fit : AllByRecursion (λ row. is_row schema row ≡ true) (rows_over pages)
  pub order : InOrder (keyed_rows key_of (rows_over pages))

-- so many pages from an offset on are a table's, and those are these
pub record IsWhole (schema : Schema) (key_of : List ℕ → List ℕ) (file : List ℕ) (at count : ℕ) (pages : List (List (List ℕ))) : Type 0 where
  pub whole : AreWhole schema key_of file at pages
  pub many : length pages ≡ count

-- the first bad one of so many pages lies here
abbrev pub IsFirstBad : Schema → (List ℕ → List ℕ) → List ℕ → ℕ → ℕ → ℕ → Type 0
IsFirstBad schema key_of file at count here = BreaksAt (AreWhole schema key_of file at) at count here

-- a check of so many pages tells that they are whole, with the key of each one's first row, or where the first bad one
-- lies
abbrev pub ChecksTable : Schema → (List ℕ → List ℕ) → List ℕ → ℕ → ℕ → Result Places CheckError → Type 0
ChecksTable schema key_of file at count (Ok places) = (pages : List (List (List ℕ))) × IsWhole schema key_of file at count pages × (places ≡ record { at = at; keys = first_keys key_of pages })
ChecksTable schema key_of file at count (Err (Damaged here)) = IsFirstBad schema key_of file at count here
ChecksTable schema key_of file at count (Err NoMemory) = Unit {0}
ChecksTable schema key_of file at count (Err DeviceFailed) = Unit {0}

-- where the pages lie of which the rows were noted, or why there are none
abbrev pub places_in : Result NotedPages CheckError → Result Places CheckError
places_in (Ok table) = Ok table.pages
places_in (Err e) = Err e

-- ---- laws

-- pages that are whole have no first bad one
abbrev pub WholeIsNotBad : Type 0
WholeIsNotBad = (schema : Schema) (key_of : List ℕ → List ℕ) (file : List ℕ) (at count here : ℕ) (pages : List (List (List ℕ))) → IsWhole schema key_of file at count pages → IsFirstBad schema key_of file at count here → ⊥

-- there is one first bad page at most
abbrev pub OneFirstBad : Type 0
OneFirstBad = (schema : Schema) (key_of : List ℕ → List ℕ) (file : List ℕ) (at count here there : ℕ) → IsFirstBad schema key_of file at count here → IsFirstBad schema key_of file at count there → here ≡ there

-- pages are whole in one way at most
abbrev pub OneWhole : Type 0
OneWhole = (schema : Schema) (key_of : List ℕ → List ℕ) (file : List ℕ) (at count : ℕ) (pages others : List (List (List ℕ))) → IsWhole schema key_of file at count pages → IsWhole schema key_of file at count others → pages ≡ others

-- pages that are whole are those of a table that is stored there
abbrev pub WholeIsStored : Type 0
WholeIsStored = (schema : Schema) (key_of : List ℕ → List ℕ) (file : List ℕ) (at count : ℕ) (pages : List (List (List ℕ))) → IsWhole schema key_of file at count pages → IsStored key_of (record { at = at; keys = first_keys key_of pages }) pages file
