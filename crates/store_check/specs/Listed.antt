-- The catalogue of a half: its tables in the order of their names, and the pages of each behind those of the tables in
-- front of it.
use Rattle.std.specs.Prelude.{◌≡◌, ◌+◌, ◌==◌, ◌&&◌, ℕ, Bool, true, false, nat_le, List, [], ◌∷◌, ◌++◌, length, map, Result, Ok, Err, if◌then◌else◌}
use Rattle.std.specs.Global.{Vec}
use Rattle.std.specs.Ordering.{match_ordering}
use Rattle.drda_words.specs.Place.{part}
use Rattle.drda_disk.specs.Layout.{page_bytes}
use Rattle.key_map.specs.Slots.{by_bytes}
use Rattle.checkpoint_writer.specs.Catalogue.{Entry, IsEntryPage, entry_of}
use Rattle.checkpoint_writer.specs.declared.entry.StoredTable.{StoredTable}
use Rattle.store_check.specs.Breaking.{BreaksAt}
use Rattle.store_check.specs.declared.errors.CheckError.{CheckError}
use Rattle.store_check.specs.declared.errors.CheckError.TheVariants.{NoMemory, DeviceFailed, Damaged}

-- there are tables
abbrev pub HasTables : List Entry → Type 0
HasTables [] = ⊥
HasTables (e ∷ es) = Unit {0}

-- bytes are a page of these tables, of which there are some
pub record IsTablesPage (bytes : List ℕ) (entries : List Entry) : Type 0 where
  pub is : IsEntryPage bytes entries
  pub some : HasTables entries

-- the pages from an offset on have these entries, page by page
abbrev pub EntriesAt : List ℕ → ℕ → List (List Entry) → Type 0
EntriesAt file at [] = Unit {0}
EntriesAt file at (page ∷ pages) = IsTablesPage (part file at page_bytes) page × EntriesAt file (at + page_bytes) pages

abbrev pub entries_over : List (List Entry) → List Entry
entries_over [] = []
entries_over (page ∷ pages) = page ++ entries_over pages

-- whether a table's name comes before that of the next one, where there is one
abbrev pub is_before : Entry → List Entry → Bool
is_before e [] = true
is_before e (f ∷ es) = match_ordering (by_bytes e.name f.name) true false false

-- each name comes before the next one
abbrev pub names_rise : List Entry → Bool
names_rise [] = true
names_rise (e ∷ es) = is_before e es && names_rise es

-- the number of a table's first page, where those in front of it end at this one; 0 where it has none
abbrev pub first_page_of : ℕ → Entry → ℕ
first_page_of next e = if e.pages == 0 then 0 else next

-- the pages of tables lie one behind another from a page on, none of them past the last
abbrev pub lie_from : ℕ → ℕ → List Entry → Bool
lie_from next last [] = true
lie_from next last (e ∷ es) = (e.first_page == first_page_of next e) && (nat_le (next + e.pages) last && lie_from (next + e.pages) last es)

-- the tables of a catalogue in whose half there are so many pages for rows
abbrev pub are_listed : ℕ → List Entry → Bool
are_listed last es = names_rise es && lie_from 0 last es

-- these are the pages of a catalogue from an offset on
pub record AreListed (file : List ℕ) (at last : ℕ) (pages : List (List Entry)) : Type 0 where
  pub stand : EntriesAt file at pages
  pub listed : are_listed last (entries_over pages) ≡ true

-- so many pages from an offset on are those of a catalogue, and these are they
pub record IsListing (file : List ℕ) (at count last : ℕ) (pages : List (List Entry)) : Type 0 where
  pub listed : AreListed file at last pages
  pub many : length pages ≡ count

-- a check of so many pages tells the tables that a catalogue has there, or where the first page lies with which it is none
abbrev pub ChecksCatalogue : List ℕ → ℕ → ℕ → ℕ → Result (Vec StoredTable) CheckError → Type 0
ChecksCatalogue file at count last (Ok tables) = (pages : List (List Entry)) × IsListing file at count last pages × (map entry_of tables.items ≡ entries_over pages)
ChecksCatalogue file at count last (Err (Damaged here)) = BreaksAt (AreListed file at last) at count here
ChecksCatalogue file at count last (Err NoMemory) = Unit {0}
ChecksCatalogue file at count last (Err DeviceFailed) = Unit {0}

-- ---- laws

-- a catalogue has no first bad page
abbrev pub ListedIsNotBad : Type 0
ListedIsNotBad = (file : List ℕ) (at count last here : ℕ) (pages : List (List Entry)) → IsListing file at count last pages → BreaksAt (AreListed file at last) at count here → ⊥
