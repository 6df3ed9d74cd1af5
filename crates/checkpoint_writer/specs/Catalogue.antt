-- The catalogue of a store: a row for each table, in pages of their own.
use Rattle.std.specs.Prelude.{◌≡◌, ◌⊎◌, ℕ, zero, suc, ◌+◌, ◌^◌, Bool, true, ◌&&◌, nat_lt, List, [], ◌∷◌, ◌++◌, length, Option, Some, None, option_map, string_bytes}
use Rattle.std.specs.List.{AllByRecursion}
use Rattle.std.specs.Option.{option_and_then}
use Rattle.std.specs.Int.{w32, from_be_bytes, to_be_bytes}
use Rattle.drda_words.specs.Place.{part}
use Rattle.drda_disk.specs.Layout.{page_bytes}
use Rattle.row_values.specs.Schema.{Schema, is_name, is_schema}
use Rattle.row_values.specs.Bytes.{name_at, named, schema_at, schema_bytes}
use Rattle.row_pages.specs.Laying.{IsShort, laid}
use Rattle.checkpoint_writer.specs.Laying.{StandAt}
use Rattle.row_pages.specs.Page.{IsPage}
use Rattle.row_pages.specs.declared.page.PageKind.TheVariants as kind
use Rattle.checkpoint_writer.specs.declared.entry.TablePlace.{TablePlace}
use Rattle.checkpoint_writer.specs.declared.entry.StoredTable.{StoredTable}

-- where a table lies: its schema, the number of its first page and how many pages it has
pub record Entry : Type 0 where
  pub name : List ℕ
  pub schema : Schema
  pub first_page : ℕ
  pub pages : ℕ

abbrev pub place_of : TablePlace → Entry
place_of p = record { name = p.name.now; schema = p.schema.now; first_page = p.first_page; pages = p.pages }

abbrev pub entry_of : StoredTable → Entry
entry_of t = record { name = string_bytes t.name; schema = t.schema; first_page = t.first_page; pages = t.pages }

-- its row: the name behind its length in one byte, the schema, and the two numbers in four bytes each
abbrev pub entry_bytes : Entry → List ℕ
entry_bytes e = named e.name ++ (schema_bytes e.schema ++ (to_be_bytes w32 e.first_page ++ to_be_bytes w32 e.pages))

-- two numbers of four bytes, and nothing else
abbrev pub numbers_at : List ℕ → Option (ℕ × ℕ)
numbers_at (a ∷ b ∷ c ∷ d ∷ e ∷ f ∷ g ∷ h ∷ []) = Some (from_be_bytes w32 (a ∷ b ∷ c ∷ d ∷ []), from_be_bytes w32 (e ∷ f ∷ g ∷ h ∷ []))
numbers_at bytes = None

abbrev pub entry_with : List ℕ → Schema → Option (ℕ × ℕ) → Option Entry
entry_with name schema numbers = option_map (λ (n : ℕ × ℕ). record { name = name; schema = schema; first_page = n.0; pages = n.1 }) numbers

-- the entry that a row is
unfoldable pub entry_at : List ℕ → Option Entry
entry_at row = option_and_then (λ (x : List ℕ × List ℕ). option_and_then (λ (y : Schema × List ℕ). entry_with x.0 y.0 (numbers_at y.1)) (schema_at x.1)) (name_at row)

-- the entries that rows are, each one
abbrev pub entries_in : List (List ℕ) → Option (List Entry)
entries_in [] = Some []
entries_in (row ∷ rows) = option_and_then (λ (e : Entry). option_map (λ (es : List Entry). e ∷ es) (entries_in rows)) (entry_at row)

-- ---- entries and their bytes

abbrev pub is_entry : Entry → Bool
is_entry e = is_name e.name && (is_schema e.schema && (nat_lt e.first_page (2 ^ 32) && nat_lt e.pages (2 ^ 32)))

abbrev pub EntryIsRead : Type 0
EntryIsRead = (e : Entry) → is_entry e ≡ true → entry_at (entry_bytes e) ≡ Some e

-- ---- the pages of a catalogue

-- bytes are a page of these entries
pub record IsEntryPage (bytes : List ℕ) (entries : List Entry) : Type 0 where
  pub rows : List (List ℕ)
  pub page : IsPage (record { kind = kind.Catalogue; rows = rows }) bytes
  pub are : entries_in rows ≡ Some entries

-- so many pages from an offset on have these entries
abbrev pub HasEntries : List ℕ → ℕ → ℕ → List Entry → Type 0
HasEntries file at zero entries = entries ≡ []
HasEntries file at (suc n) entries = (first : List Entry) × (rest : List Entry) × IsEntryPage (part file at page_bytes) first × HasEntries file (at + page_bytes) n rest × (entries ≡ first ++ rest)

-- the first of them that is no page of entries lies here
abbrev pub IsDamagedAt : List ℕ → ℕ → ℕ → ℕ → Type 0
IsDamagedAt file at zero d = ⊥
IsDamagedAt file at (suc n) d = ((d ≡ at) × ((entries : List Entry) → IsEntryPage (part file at page_bytes) entries → ⊥))
    ⊎ ((first : List Entry) × IsEntryPage (part file at page_bytes) first × IsDamagedAt file (at + page_bytes) n d)

abbrev pub rows_of : List Entry → List (List ℕ)
rows_of [] = []
rows_of (e ∷ es) = entry_bytes e ∷ rows_of es

-- each has a good name
abbrev pub HaveNames : List Entry → Type 0
HaveNames [] = Unit {0}
HaveNames (e ∷ es) = (is_name e.name ≡ true) × HaveNames es

abbrev pub AreEntries : List Entry → Type 0
AreEntries [] = Unit {0}
AreEntries (e ∷ es) = (is_entry e ≡ true) × AreEntries es

-- a catalogue that was written is read back
abbrev pub CatalogueIsRead : Type 0
CatalogueIsRead = (file : List ℕ) (at : ℕ) (entries : List Entry) → AreEntries entries → AllByRecursion IsShort (rows_of entries) → StandAt kind.Catalogue file at (laid (rows_of entries)) → HasEntries file at (length (laid (rows_of entries))) entries
