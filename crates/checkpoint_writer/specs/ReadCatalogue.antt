-- What a reader of a catalogue answers.
use Rattle.std.specs.Prelude.{◌≡◌, ℕ, ◌+◌, List, ◌++◌, Result, Ok, Err, map}
use Rattle.std.specs.Global.{Vec}
use Rattle.checkpoint_writer.specs.Catalogue.{Entry, HasEntries, IsDamagedAt, IsEntryPage, entry_of}
use Rattle.checkpoint_writer.specs.declared.entry.StoredTable.{StoredTable}
use Rattle.checkpoint_writer.specs.declared.reading.CatalogueError.{CatalogueError}
use Rattle.checkpoint_writer.specs.declared.reading.CatalogueError.TheVariants.{NoMemory, DeviceFailed, Damaged}
use Rattle.row_pages.specs.declared.kept.PageFault.{PageFault}
use Rattle.row_pages.specs.declared.kept.PageFault.TheVariants as fault

-- a fault of the page at an offset
abbrev pub catalogue_error : ℕ → PageFault → CatalogueError
catalogue_error at fault.NoMemory = NoMemory
catalogue_error at fault.DeviceFailed = DeviceFailed
catalogue_error at fault.Damaged = Damaged at

-- the tables of the page at an offset, behind others; damage is told of this page, and only where it is none of a
-- catalogue
abbrev pub ReadsBytes : {T : Type 0} → List ℕ → ℕ → List StoredTable → Result T CatalogueError → List StoredTable → Type 0
ReadsBytes bytes at old (Ok x) new = (entries : List Entry) × IsEntryPage bytes entries × (map entry_of new ≡ map entry_of old ++ entries)
ReadsBytes bytes at old (Err (Damaged d)) new = (d ≡ at) × ((entries : List Entry) → IsEntryPage bytes entries → ⊥)
ReadsBytes bytes at old (Err NoMemory) new = Unit {0}
ReadsBytes bytes at old (Err DeviceFailed) new = Unit {0}

-- the tables of so many pages from an offset on, or where the first one lies that is no page of a catalogue
abbrev pub TellsCatalogue : List ℕ → ℕ → ℕ → Result (Vec StoredTable) CatalogueError → Type 0
TellsCatalogue file at n (Ok tables) = HasEntries file at n (map entry_of tables.items)
TellsCatalogue file at n (Err (Damaged d)) = IsDamagedAt file at n d
TellsCatalogue file at n (Err NoMemory) = Unit {0}
TellsCatalogue file at n (Err DeviceFailed) = Unit {0}

-- the device has failed once more exactly where that is told
abbrev pub CountsCatalogue : {T : Type 0} → Result T CatalogueError → ℕ → ℕ → Type 0
CountsCatalogue (Ok x) old new = new ≡ old
CountsCatalogue (Err NoMemory) old new = new ≡ old
CountsCatalogue (Err (Damaged d)) old new = new ≡ old
CountsCatalogue (Err DeviceFailed) old new = new ≡ old + 1
