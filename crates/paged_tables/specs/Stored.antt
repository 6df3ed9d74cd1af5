-- A table as it is stored: the rows that its pages have, each at the sort form of its key, and the changes since.
use Rattle.std.specs.Prelude.{◌≡◌, ◌⊎◌, ℕ, ◌+◌, ◌*◌, ◌≤◌, Bool, true, false, List, [], length, Option, Some, None, map, cond, option_map, unwrap_or}
use Rattle.std.specs.Global.{Vec}
use Rattle.std.specs.List.{AllByRecursion}
use Rattle.drda_words.specs.Bytes.{AreBytes}
use Rattle.drda_disk.specs.Layout.{page_bytes}
use Rattle.key_map.specs.Merging.{InOrder, Rows, merged}
use Rattle.key_map.specs.Overlay.{changes_of}
use Rattle.key_map.specs.RowForm.{row_form}
use Rattle.key_map.specs.Slots.{HasRoom, Slots}
use Rattle.key_map.specs.SortForm.{sort_form}
use Rattle.row_pages.specs.Laying.{rows_over}
use Rattle.row_values.specs.Schema.{Schema}
use Rattle.row_values.specs.Row.{is_row}
use Rattle.row_values.specs.Key.{is_key, row_key}
use Rattle.table_map.specs.Keyed.{keyed_rows}
use Rattle.table_map.specs.Stored.{Places, IsStored as StandAt}
use Rattle.tables.specs.Tables.{Table}

-- A table that is created, or that is held ready to be: where its pages lie, the rows that they have, and the changes
-- since, with the room for more.
pub record Stored : Type 0 where
  pub schema : Schema
  pub is_created : Bool
  pub places : Places
  pub base : Rows
  pub changes : Slots

-- rows, each at its key
abbrev pub at_keys : Schema → Rows → Rows
at_keys schema rows = map (λ (e : List ℕ × List ℕ). (row_key schema e.1, e.1)) rows

-- the rows, each at the sort form of its key
abbrev pub rows_in : Stored → Rows
rows_in t = merged t.base (changes_of t.changes)

abbrev pub table_in : Stored → Table
table_in t = record { schema = t.schema; rows = at_keys t.schema (rows_in t) }

-- the table, where it is created
abbrev pub shown : Stored → Option Table
shown t = cond t.is_created (Some (table_in t)) None

-- the table that a creation makes of it: one that is there stays
abbrev pub created_table : Stored → Table
created_table t = unwrap_or (shown t) (record { schema = t.schema; rows = [] })

-- ---- forms

abbrev pub form_in : Option (Vec ℕ) → Option (List ℕ)
form_in form = option_map (λ f. f.items) form

-- the bytes of a key of the schema, and their sort form
pub record IsFormOf (schema : Schema) (key form : List ℕ) : Type 0 where
  pub sorted : form ≡ sort_form schema key
  pub good : is_key schema key ≡ true
  pub bytes : AreBytes key

-- the form of a key, where it is one of the schema
abbrev pub FormsKey : Schema → List ℕ → Option (List ℕ) → Type 0
FormsKey schema key None = is_key schema key ≡ false
FormsKey schema key (Some form) = IsFormOf schema key form

-- a row of the schema, and the form of its key
pub record IsRowAt (schema : Schema) (row form : List ℕ) : Type 0 where
  pub good : is_row schema row ≡ true
  pub key : IsFormOf schema (row_key schema row) form

-- the form of a row's key, where it is one of the schema
abbrev pub FormsRow : Schema → List ℕ → Option (List ℕ) → Type 0
FormsRow schema row None = is_row schema row ≡ false
FormsRow schema row (Some form) = IsRowAt schema row form

-- and there is room at it
abbrev pub HasRoomFor : Slots → Option (List ℕ) → Type 0
HasRoomFor slots None = Unit {0}
HasRoomFor slots (Some form) = HasRoom form slots

-- ---- what is true of each stored table

-- each is a row of the schema, at the form of its key
abbrev pub HaveForms : Schema → Rows → Type 0
HaveForms schema rows = AllByRecursion (λ (e : List ℕ × List ℕ). IsRowAt schema e.1 e.0) rows

-- the forms of the rows that the pages have rise, each row stands at the form of its key, and a table that is not created
-- has none
pub record IsStored (t : Stored) : Type 0 where
  pub order : InOrder t.base
  pub forms : HaveForms t.schema (rows_in t)
  pub empty : t.is_created ≡ false → rows_in t ≡ []

-- ---- its pages

-- the pages stand in a file with these bytes, and have the rows
pub record IsOnPages (file : List ℕ) (t : Stored) : Type 0 where
  pub pages : List (List (List ℕ))
  pub stand : StandAt (row_form t.schema) t.places pages file
  pub rows : t.base ≡ keyed_rows (row_form t.schema) (rows_over pages)

-- the pages end within so many bytes
abbrev pub LiesInside : ℕ → Stored → Type 0
LiesInside size t = t.places.at + page_bytes * length t.places.keys ≤ size

-- the pages end in front of an offset, or begin behind another one
abbrev pub LiesOutside : ℕ → ℕ → Stored → Type 0
LiesOutside from end t = (t.places.at + page_bytes * length t.places.keys ≤ from) ⊎ (end ≤ t.places.at)

-- the schema and the pages of a table stay, whatever else becomes of it
pub record KeepsPages (old new : Stored) : Type 0 where
  pub schema : new.schema ≡ old.schema
  pub places : new.places ≡ old.places
  pub base : new.base ≡ old.base

-- the table that has its rows on these pages, and no changes since
abbrev pub laid_anew : Places → Stored → Stored
laid_anew places t = record { schema = t.schema; is_created = t.is_created; places = places; base = rows_in t; changes = [] }

-- the table that has the rows of pages, and no changes since
abbrev pub opened : Schema → Places → List (List ℕ) → Stored
opened schema places rows = record { schema = schema; is_created = true; places = places; base = keyed_rows (row_form schema) rows; changes = [] }

-- rows of the schema as pages have them, in the order of the forms of their keys
pub record AreRowsOf (schema : Schema) (rows : List (List ℕ)) : Type 0 where
  pub forms : HaveForms schema (keyed_rows (row_form schema) rows)
  pub order : InOrder (keyed_rows (row_form schema) rows)
