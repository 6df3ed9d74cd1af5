-- All that a half has: its catalogue, and the pages of its tables.
use Rattle.std.specs.Prelude.{◌≡◌, ◌≢◌, ◌⊎◌, ◌<◌, ◌≤◌, ◌+◌, ◌-◌, ◌*◌, ℕ, min, nat_lt, List, [], ◌∷◌, ◌++◌, length, map, Result, Ok, Err, if◌then◌else◌}
use Rattle.std.specs.List.{AllByRecursion}
use Rattle.std.specs.Global.{Vec}
use Rattle.drda_words.specs.Place.{part}
use Rattle.drda_disk.specs.Layout.{page_bytes}
use Rattle.row_values.specs.Schema.{Schema}
use Rattle.row_pages.specs.Laying.{rows_over}
use Rattle.row_pages.specs.declared.page.PageKind.{PageKind}
use Rattle.row_pages.specs.declared.page.PageKind.TheVariants as kind
use Rattle.table_map.specs.Keyed.{first_keys}
use Rattle.table_map.specs.Stored.{Places}
use Rattle.half_store.specs.declared.active.Active.{Active}
use Rattle.checkpoint_writer.specs.Catalogue.{Entry, entry_of}
use Rattle.store_check.specs.Breaking.{BreaksAt}
use Rattle.store_check.specs.Formed.{IsFormed}
use Rattle.store_check.specs.Listed.{AreListed, IsListing, entries_over}
use Rattle.store_check.specs.Whole.{AreRows, IsFirstBad, IsWhole}
use Rattle.store_check.specs.declared.half.CheckedTable.{CheckedTable}
use Rattle.store_check.specs.declared.errors.CheckError.{CheckError}
use Rattle.store_check.specs.declared.errors.CheckError.TheVariants.{NoMemory, DeviceFailed, Damaged}

-- The pages of a half: the offset of the first one, how many there are, and which of them are the catalogue's.
pub record HalfPages : Type 0 where
  pub at : ℕ
  pub count : ℕ
  pub first_catalogue : ℕ
  pub catalogue_pages : ℕ

-- they lie in front of the half's journal
abbrev pub pages_of : Active → HalfPages
pages_of a = record { at = a.region.at - page_bytes * a.pages; count = a.pages; first_catalogue = a.first_catalogue; catalogue_pages = a.catalogue_pages }

-- the offset of the page with this number
abbrev pub page_at : ℕ → ℕ → ℕ
page_at at n = at + page_bytes * n

-- the number of the page behind the catalogue's
abbrev pub catalogue_end : HalfPages → ℕ
catalogue_end half = half.first_catalogue + half.catalogue_pages

-- the key of a row of a table with this schema
abbrev pub KeysBySchema : Type 0
KeysBySchema = Schema → List ℕ → List ℕ

-- a table, with the rows of each of its pages
pub record TableRows : Type 0 where
  pub entry : Entry
  pub pages : List (List (List ℕ))

abbrev pub entries_of : List TableRows → List Entry
entries_of tables = map (λ t. t.entry) tables

-- how many pages tables have
abbrev pub pages_over : List Entry → ℕ
pages_over [] = 0
pages_over (e ∷ es) = e.pages + pages_over es

-- these are the tables of a half's catalogue
abbrev pub IsCatalogue : List ℕ → HalfPages → List Entry → Type 0
IsCatalogue file half entries = (pages : List (List Entry)) × IsListing file (page_at half.at half.first_catalogue) half.catalogue_pages half.first_catalogue pages × (entries_over pages ≡ entries)

-- a table's pages are whole, in a half whose first page lies here
abbrev pub IsTable : KeysBySchema → List ℕ → ℕ → TableRows → Type 0
IsTable key_of file at t = IsWhole t.entry.schema (key_of t.entry.schema) file (page_at at t.entry.first_page) t.entry.pages t.pages

abbrev pub AreTables : KeysBySchema → List ℕ → ℕ → List TableRows → Type 0
AreTables key_of file at tables = AllByRecursion (IsTable key_of file at) tables

-- A half is whole: its catalogue is, and the pages of each table. Behind those of the last table the catalogue begins, and
-- behind the catalogue there is no page.
pub record IsWholeHalf (key_of : KeysBySchema) (file : List ℕ) (half : HalfPages) (tables : List TableRows) : Type 0 where
  pub catalogue : IsCatalogue file half (entries_of tables)
  pub whole : AreTables key_of file half.at tables
  pub behind : pages_over (entries_of tables) ≡ half.first_catalogue
  pub last : catalogue_end half ≡ half.count

-- ---- the form of pages

-- the kind of the page with this number: pages of rows lie in front of the catalogue
abbrev pub kind_of : HalfPages → ℕ → PageKind
kind_of half n = if nat_lt n half.first_catalogue then kind.Rows else kind.Catalogue

-- the page with this number has rows and is of its place's kind, and it does not lie behind the catalogue
pub record HasForm (file : List ℕ) (half : HalfPages) (n : ℕ) : Type 0 where
  pub within : n < catalogue_end half
  pub is : IsFormed (kind_of half n) (part file (page_at half.at n) page_bytes)

-- each of so many first pages has its form
abbrev pub HaveForm : List ℕ → HalfPages → ℕ → Type 0
HaveForm file half count = (n : ℕ) → n < count → HasForm file half n

-- the first page without its form lies here
pub record BreaksInForm (file : List ℕ) (half : HalfPages) (here : ℕ) : Type 0 where
  pub number : ℕ
  pub within : number < half.count
  pub front : HaveForm file half number
  pub bad : HasForm file half number → ⊥
  pub place : here ≡ page_at half.at number

-- ---- the first bad page

-- The catalogue's last page is not the half's: the first page that lies in front of one of the two ends alone lies here.
pub record BreaksAtEnd (half : HalfPages) (here : ℕ) : Type 0 where
  pub apart : catalogue_end half ≢ half.count
  pub place : here ≡ page_at half.at (min half.count (catalogue_end half))

-- the catalogue's pages break here
pub record BreaksInCatalogue (file : List ℕ) (half : HalfPages) (here : ℕ) : Type 0 where
  pub last : catalogue_end half ≡ half.count
  pub breaks : BreaksAt (AreListed file (page_at half.at half.first_catalogue) half.first_catalogue) (page_at half.at half.first_catalogue) half.catalogue_pages here

-- the pages of one of the tables break here, and those of the tables in front of it are whole
pub record BreaksInTable (key_of : KeysBySchema) (file : List ℕ) (at : ℕ) (entries : List Entry) (here : ℕ) : Type 0 where
  pub front : List TableRows
  pub entry : Entry
  pub more : List Entry
  pub same : entries ≡ entries_of front ++ entry ∷ more
  pub whole : AreTables key_of file at front
  pub bad : IsFirstBad entry.schema (key_of entry.schema) file (page_at at entry.first_page) entry.pages here

-- all tables are whole, and the page behind theirs, which is not the first of the catalogue, lies here
pub record BreaksBehind (key_of : KeysBySchema) (file : List ℕ) (at first : ℕ) (entries : List Entry) (here : ℕ) : Type 0 where
  pub tables : List TableRows
  pub same : entries ≡ entries_of tables
  pub whole : AreTables key_of file at tables
  pub apart : pages_over entries ≢ first
  pub place : here ≡ page_at at (pages_over entries)

-- the first bad page of those in front of the catalogue, which begins with this one
abbrev pub BreaksAmong : KeysBySchema → List ℕ → ℕ → ℕ → List Entry → ℕ → Type 0
BreaksAmong key_of file at first entries here = BreaksInTable key_of file at entries here ⊎ BreaksBehind key_of file at first entries here

-- the catalogue is whole, and the first bad page of those in front of it lies here
pub record BreaksInRows (key_of : KeysBySchema) (file : List ℕ) (half : HalfPages) (here : ℕ) : Type 0 where
  pub entries : List Entry
  pub last : catalogue_end half ≡ half.count
  pub catalogue : IsCatalogue file half entries
  pub breaks : BreaksAmong key_of file half.at half.first_catalogue entries here

-- What pages of good form say of one another breaks here: the catalogue's place at the end is looked at first, then its
-- pages, then the pages in front of it by their numbers.
abbrev pub BreaksInMeaning : KeysBySchema → List ℕ → HalfPages → ℕ → Type 0
BreaksInMeaning key_of file half here = BreaksAtEnd half here ⊎ (BreaksInCatalogue file half here ⊎ BreaksInRows key_of file half here)

-- The first bad page of a half lies here: the first one by number without its form, and where each has its own the first
-- one by what they say.
abbrev pub BreaksHalf : KeysBySchema → List ℕ → HalfPages → ℕ → Type 0
BreaksHalf key_of file half here = BreaksInForm file half here ⊎ (HaveForm file half half.count × BreaksInMeaning key_of file half here)

-- ---- what is told

abbrev pub told_of : CheckedTable → Entry × Places
told_of checked = (entry_of checked.table, checked.pages.pages)

-- a table, where its pages lie, and the key of each one's first row
abbrev pub placed : KeysBySchema → ℕ → TableRows → Entry × Places
placed key_of at t = (t.entry, record { at = page_at at t.entry.first_page; keys = first_keys (key_of t.entry.schema) t.pages })

-- a table's pages end here at the latest
abbrev pub LiesBelow : ℕ → CheckedTable → Type 0
LiesBelow end checked = checked.pages.pages.at + page_bytes * length checked.pages.pages.keys ≤ end

-- they begin here at the earliest
abbrev pub LiesBehind : ℕ → CheckedTable → Type 0
LiesBehind begin checked = begin ≤ checked.pages.pages.at

-- the pages of each table lie between these offsets
pub record LieWithin (begin end : ℕ) (checked : List CheckedTable) : Type 0 where
  pub behind : AllByRecursion (LiesBehind begin) checked
  pub below : AllByRecursion (LiesBelow end) checked

-- the rows of a table that were noted, and those that its pages have
abbrev pub noted_in : CheckedTable → List (List ℕ)
noted_in checked = checked.pages.rows.listed.value

abbrev pub rows_in : TableRows → List (List ℕ)
rows_in t = rows_over t.pages

-- the rows that were noted of a table are rows of its schema, and their keys rise
abbrev pub NotesTable : KeysBySchema → CheckedTable → Type 0
NotesTable key_of checked = AreRows checked.table.schema (key_of checked.table.schema) (noted_in checked)

-- a table in the catalogue
abbrev pub entry_in : CheckedTable → Entry
entry_in checked = entry_of checked.table

-- a check of a half tells its tables, where it is whole, and notes their rows; or it tells its first bad page
abbrev pub ChecksHalf : KeysBySchema → List ℕ → HalfPages → Result (Vec CheckedTable) CheckError → Type 0
ChecksHalf key_of file half (Ok checked) = (tables : List TableRows) × IsWholeHalf key_of file half tables × (map told_of checked.items ≡ map (placed key_of half.at) tables) × (map noted_in checked.items ≡ map rows_in tables)
ChecksHalf key_of file half (Err (Damaged here)) = BreaksHalf key_of file half here
ChecksHalf key_of file half (Err NoMemory) = Unit {0}
ChecksHalf key_of file half (Err DeviceFailed) = Unit {0}

-- ---- laws

-- a half that is whole has no first bad page
abbrev pub WholeHalfIsNotBad : Type 0
WholeHalfIsNotBad = (key_of : KeysBySchema) (file : List ℕ) (half : HalfPages) (here : ℕ) (tables : List TableRows) → IsWholeHalf key_of file half tables → BreaksHalf key_of file half here → ⊥

-- there is one first bad page at most
abbrev pub OneFirstBadOfHalf : Type 0
OneFirstBadOfHalf = (key_of : KeysBySchema) (file : List ℕ) (half : HalfPages) (here there : ℕ) → BreaksHalf key_of file half here → BreaksHalf key_of file half there → here ≡ there

-- a half is whole in one way at most
abbrev pub OneWholeHalf : Type 0
OneWholeHalf = (key_of : KeysBySchema) (file : List ℕ) (half : HalfPages) (tables others : List TableRows) → IsWholeHalf key_of file half tables → IsWholeHalf key_of file half others → tables ≡ others
