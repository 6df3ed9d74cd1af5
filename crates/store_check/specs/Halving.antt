-- Checking a half part by part.
use Rattle.std.specs.Prelude.{◌≡◌, ◌⊎◌, ℕ, List, map, Option, Some, None, Result, Ok, Err}
use Rattle.std.specs.Global.{Vec}
use Rattle.checkpoint_writer.specs.Catalogue.{Entry, entry_of}
use Rattle.checkpoint_writer.specs.declared.entry.StoredTable.{StoredTable}
use Rattle.store_check.specs.Half.{AreTables, BreaksAmong, BreaksAtEnd, BreaksInCatalogue, BreaksInForm, BreaksInMeaning, HalfPages, HaveForm, IsCatalogue, IsWholeHalf, KeysBySchema, TableRows, entries_of, noted_in, pages_over, placed, rows_in, told_of}
use Rattle.store_check.specs.declared.half.CheckedTable.{CheckedTable}
use Rattle.store_check.specs.declared.errors.CheckError.{CheckError}
use Rattle.store_check.specs.declared.errors.CheckError.TheVariants.{NoMemory, DeviceFailed, Damaged}

-- what is told of the tables that a half's catalogue has
abbrev pub ListsHalf : List ℕ → HalfPages → Result (Vec StoredTable) CheckError → Type 0
ListsHalf file half (Ok tables) = IsCatalogue file half (map entry_of tables.items)
ListsHalf file half (Err (Damaged here)) = BreaksAtEnd half here ⊎ BreaksInCatalogue file half here
ListsHalf file half (Err NoMemory) = Unit {0}
ListsHalf file half (Err DeviceFailed) = Unit {0}

-- what is told of the pages in front of a catalogue that has these tables and begins with this page
abbrev pub ChecksRows : KeysBySchema → List ℕ → ℕ → ℕ → List Entry → Result (Vec CheckedTable) CheckError → Type 0
ChecksRows key_of file at first entries (Ok checked) = (tables : List TableRows) × (entries ≡ entries_of tables) × AreTables key_of file at tables × (pages_over entries ≡ first) × (map told_of checked.items ≡ map (placed key_of at) tables) × (map noted_in checked.items ≡ map rows_in tables)
ChecksRows key_of file at first entries (Err (Damaged here)) = BreaksAmong key_of file at first entries here
ChecksRows key_of file at first entries (Err NoMemory) = Unit {0}
ChecksRows key_of file at first entries (Err DeviceFailed) = Unit {0}

-- what is told of what all pages say: the tables, with their rows noted, or where it breaks
abbrev pub ChecksMeaning : KeysBySchema → List ℕ → HalfPages → Result (Vec CheckedTable) CheckError → Type 0
ChecksMeaning key_of file half (Ok checked) = (tables : List TableRows) × IsWholeHalf key_of file half tables × (map told_of checked.items ≡ map (placed key_of half.at) tables) × (map noted_in checked.items ≡ map rows_in tables)
ChecksMeaning key_of file half (Err (Damaged here)) = BreaksInMeaning key_of file half here
ChecksMeaning key_of file half (Err NoMemory) = Unit {0}
ChecksMeaning key_of file half (Err DeviceFailed) = Unit {0}

-- what is told of the form of all pages: where the first one without it lies, if one is
abbrev pub ChecksForm : List ℕ → HalfPages → Result (Option ℕ) CheckError → Type 0
ChecksForm file half (Ok None) = HaveForm file half half.count
ChecksForm file half (Ok (Some here)) = BreaksInForm file half here
ChecksForm file half (Err NoMemory) = Unit {0}
ChecksForm file half (Err DeviceFailed) = Unit {0}
ChecksForm file half (Err (Damaged here)) = ⊥

-- damage at the first of two offsets, if there is one, else at the other
abbrev pub first_of : Option ℕ → ℕ → CheckError
first_of (Some at) found = Damaged at
first_of None found = Damaged found

-- the damage that is told, where some was found in what pages say: the first page without its form comes before it
abbrev pub TellsFirst : List ℕ → HalfPages → ℕ → CheckError → Type 0
TellsFirst file half found (Damaged here) = BreaksInForm file half here ⊎ (HaveForm file half half.count × (here ≡ found))
TellsFirst file half found NoMemory = Unit {0}
TellsFirst file half found DeviceFailed = Unit {0}
