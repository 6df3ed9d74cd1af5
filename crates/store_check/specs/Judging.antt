-- Judging a table's pages one by one.
use Rattle.std.specs.Prelude.{◌≡◌, ℕ, Bool, true, false, ◌&&◌, List, [], ◌∷◌, ◌++◌, map, Option, Some, None, Result, Ok, Err}
use Rattle.std.specs.Global.{Vec}
use Rattle.std.specs.List.{AllByRecursion}
use Rattle.std.specs.Ordering.{match_ordering}
use Rattle.drda_words.specs.Bytes.{AreBytes}
use Rattle.key_map.specs.Slots.{by_bytes}
use Rattle.row_values.specs.Schema.{Schema}
use Rattle.row_values.specs.Row.{is_row}
use Rattle.row_pages.specs.Page.{IsPage, Page}
use Rattle.row_pages.specs.Laying.{HasSome}
use Rattle.row_pages.specs.declared.page.PageKind.TheVariants as kind
use Rattle.table_map.specs.Keyed.{copied, first_key}
use Rattle.checkpoint_writer.specs.Catalogue.{Entry, entry_of}
use Rattle.checkpoint_writer.specs.declared.entry.StoredTable.{StoredTable}
use Rattle.store_check.specs.Listed.{IsTablesPage, are_listed}
use Rattle.store_check.specs.declared.errors.CheckError.{CheckError}
use Rattle.store_check.specs.declared.errors.CheckError.TheVariants.{NoMemory, DeviceFailed, Damaged}

-- whether a key comes behind the last one, where there is one
abbrev pub is_behind : Option (List ℕ) → List ℕ → Bool
is_behind None key = true
is_behind (Some last) key = match_ordering (by_bytes last key) true false false

-- rows go on behind a key: each is one of the schema, and the keys rise
abbrev pub go_on : Schema → (List ℕ → List ℕ) → Option (List ℕ) → List (List ℕ) → Bool
go_on schema key_of last [] = true
go_on schema key_of last (row ∷ rows) = is_row schema row && (is_behind last (key_of row) && go_on schema key_of (Some (key_of row)) rows)

-- the key of the last of the rows
abbrev pub last_key : (List ℕ → List ℕ) → Option (List ℕ) → List (List ℕ) → Option (List ℕ)
last_key key_of last [] = last
last_key key_of last (row ∷ rows) = last_key key_of (Some (key_of row)) rows

-- a page goes on behind a key
pub record GoesOn (schema : Schema) (key_of : List ℕ → List ℕ) (last : Option (List ℕ)) (rows : List (List ℕ)) : Type 0 where
  pub some : HasSome rows
  pub rising : go_on schema key_of last rows ≡ true

-- rows that go on behind a key are noted behind others, bytes each, and the key of the last of them is the new one
pub record NotesRows (schema : Schema) (key_of : List ℕ → List ℕ) (old new : Option (List ℕ)) (noted more : List (List ℕ)) : Type 0 where
  pub rows : List (List ℕ)
  pub rising : go_on schema key_of old rows ≡ true
  pub bytes : AllByRecursion AreBytes rows
  pub last : new ≡ last_key key_of old rows
  pub same : more ≡ noted ++ rows

-- what is told of the page at an offset: the key of its first row, or that it is none that goes on
abbrev pub JudgesPage : Schema → (List ℕ → List ℕ) → ℕ → Page → Option (Vec ℕ) → Result (Vec ℕ) CheckError → Option (Vec ℕ) → Type 0
JudgesPage schema key_of at page old (Ok key) new = (page.kind ≡ kind.Rows) × GoesOn schema key_of (copied old) page.rows × (key.items ≡ first_key key_of page.rows) × (copied new ≡ last_key key_of (copied old) page.rows)
JudgesPage schema key_of at page old (Err (Damaged here)) new = (here ≡ at) × (page.kind ≡ kind.Rows → GoesOn schema key_of (copied old) page.rows → ⊥)
JudgesPage schema key_of at page old (Err NoMemory) new = Unit {0}
JudgesPage schema key_of at page old (Err DeviceFailed) new = Unit {0}

-- what is told of the bytes at an offset
abbrev pub JudgesBytes : Schema → (List ℕ → List ℕ) → ℕ → List ℕ → Option (Vec ℕ) → Result (Vec ℕ) CheckError → Option (Vec ℕ) → Type 0
JudgesBytes schema key_of at bytes old (Ok key) new = (rows : List (List ℕ)) × IsPage (record { kind = kind.Rows; rows = rows }) bytes × GoesOn schema key_of (copied old) rows × (key.items ≡ first_key key_of rows) × (copied new ≡ last_key key_of (copied old) rows)
JudgesBytes schema key_of at bytes old (Err (Damaged here)) new = (here ≡ at) × ((rows : List (List ℕ)) → IsPage (record { kind = kind.Rows; rows = rows }) bytes → GoesOn schema key_of (copied old) rows → ⊥)
JudgesBytes schema key_of at bytes old (Err NoMemory) new = Unit {0}
JudgesBytes schema key_of at bytes old (Err DeviceFailed) new = Unit {0}

-- ---- the pages of a catalogue

-- what is told of the bytes at an offset, whose tables come behind others: with them they are those of a catalogue, or
-- the bytes are no page of tables with which they would be
abbrev pub JudgesEntries : {T : Type 0} → List ℕ → ℕ → ℕ → List StoredTable → Result T CheckError → List StoredTable → Type 0
JudgesEntries bytes at last old (Ok x) new = (entries : List Entry) × IsTablesPage bytes entries × (map entry_of new ≡ map entry_of old ++ entries) × (are_listed last (map entry_of new) ≡ true)
JudgesEntries bytes at last old (Err (Damaged here)) new = (here ≡ at) × ((entries : List Entry) → IsTablesPage bytes entries → are_listed last (map entry_of old ++ entries) ≡ true → ⊥)
JudgesEntries bytes at last old (Err NoMemory) new = Unit {0}
JudgesEntries bytes at last old (Err DeviceFailed) new = Unit {0}
