-- The tables of a store by their names: those that are created, and those that are held ready.
use Rattle.std.specs.Prelude.{◌≡◌, ℕ, Bool, List, [], ◌∷◌, Option, Some, None, bytes_eq, cond, false, filter, if◌then◌else◌, map, option_map, unwrap_or, true}
use Rattle.std.specs.Global.{Vec}
use Rattle.std.specs.List.{AllByRecursion}
use Rattle.std.specs.Map.{keys_of, lookup}
use Rattle.std.proofs.Common.{Less}
use Rattle.std.specs.BTreeMap.{BTreeMap, IsOrdered}
use Rattle.key_map.specs.Slots.{HasRoom, Slots, by_bytes, by_key, rows_of}
use Rattle.row_values.specs.Schema.{Schema}
use Rattle.table_map.specs.Stored.{Places}
use Rattle.tables.specs.Change.{Change, create, put, remove}
use Rattle.tables.specs.Tables.{Store, Table, apply, schema_of}
use Rattle.tables.specs.View.{is_store}
use Rattle.paged_tables.specs.Stored.{FormsKey, FormsRow, HasRoomFor, IsOnPages, LiesInside, LiesOutside, Stored, laid_anew, shown}

abbrev pub Tables : Type 0
Tables = List (List ℕ × Stored)

abbrev pub shown_entry : List ℕ × Stored → List ℕ × Option Table
shown_entry e = (e.0, shown e.1)

-- the tables that are created
abbrev pub store_of : Tables → Store
store_of tables = rows_of (map shown_entry tables)

abbrev pub is_created : List ℕ × Stored → Bool
is_created e = e.1.is_created

abbrev pub named : Tables → List ℕ → Option Stored
named tables name = lookup (by_key name) tables

abbrev pub schema_at : Tables → List ℕ → Option Schema
schema_at tables name = option_map (λ (t : Stored). t.schema) (named tables name)

abbrev pub slots_at : Tables → List ℕ → Slots
slots_at tables name = unwrap_or (option_map (λ (t : Stored). t.changes) (named tables name)) []

-- ---- the tree that holds them

abbrev pub entry_of : Vec ℕ × Stored → List ℕ × Stored
entry_of e = (e.0.items, e.1)

abbrev pub tables_in : List (Vec ℕ × Stored) → Tables
tables_in entries = map entry_of entries

abbrev pub IsInOrder : BTreeMap (Vec ℕ) Stored → Type 0
IsInOrder m = IsOrdered (λ x y. by_bytes x.items y.items) m

-- the names rise, and what is created is a store
pub record IsTableMap (m : BTreeMap (Vec ℕ) Stored) : Type 0 where
  pub ordered : IsInOrder m
  pub good : is_store (store_of (tables_in m.entries)) ≡ true

-- ---- their pages

-- the pages of all tables stand in a file with these bytes, and have their rows
abbrev pub AreOnPages : List ℕ → Tables → Type 0
AreOnPages file tables = AllByRecursion (λ (e : List ℕ × Stored). IsOnPages file e.1) tables

-- the pages of each table end within so many bytes
abbrev pub LieInside : ℕ → Tables → Type 0
LieInside size tables = AllByRecursion (λ (e : List ℕ × Stored). LiesInside size e.1) tables

-- the pages of each table end in front of an offset, or begin behind another one
abbrev pub LieOutside : ℕ → ℕ → Tables → Type 0
LieOutside from end tables = AllByRecursion (λ (e : List ℕ × Stored). LiesOutside from end e.1) tables

-- what is true of the pages stays true
pub record PagesStay (s t : Tables) : Type 0 where
  pub stand : (file : List ℕ) → AreOnPages file s → AreOnPages file t
  pub inside : (size : ℕ) → LieInside size s → LieInside size t
  pub apart : (from end : ℕ) → LieOutside from end s → LieOutside from end t

-- the tables that are created
abbrev pub created_of : Tables → Tables
created_of tables = filter is_created tables

-- each of these names comes before this one
abbrev pub ComesLast : {X : Type 0} → List ℕ → List (List ℕ × X) → Type 0
ComesLast name entries = AllByRecursion (λ n. by_bytes n name ≡ Less) (keys_of entries)

-- what is true of the pages of all tables, and of those of one table more, is true of all of them together
pub record AddsPages (old : Tables) (t : Stored) (new : Tables) : Type 0 where
  pub stand : (file : List ℕ) → AreOnPages file old → IsOnPages file t → AreOnPages file new
  pub inside : (size : ℕ) → LieInside size old → LiesInside size t → LieInside size new
  pub apart : (from end : ℕ) → LieOutside from end old → LiesOutside from end t → LieOutside from end new

-- what becomes of a table to which the next of these pages go, if it is created, and of the pages
abbrev pub RelaysNext : List Places → Stored → Bool → Stored → List Places → Type 0
RelaysNext places t false new left = (t.is_created ≡ false) × (left ≡ places)
RelaysNext [] t true new left = (t.is_created ≡ true) × (new ≡ t) × (left ≡ [])
RelaysNext (place ∷ places) t true new left = (t.is_created ≡ true) × (new ≡ laid_anew place t) × (left ≡ places)

-- The tables that are created, in their order, with all their rows on these pages, one table's behind another's. Where
-- pages lack, the tables that are left stay as they are.
abbrev pub relaid : List Places → Tables → Tables
relaid places [] = []
relaid [] (e ∷ es) = cond e.1.is_created (e ∷ relaid [] es) (relaid [] es)
relaid (place ∷ places) (e ∷ es) = cond e.1.is_created ((e.0, laid_anew place e.1) ∷ relaid places es) (relaid (place ∷ places) es)

-- this is true of each of these tables once it has its rows on the pages that go to it
abbrev pub AreLaid : (Stored → Type 0) → List Places → Tables → Type 0
AreLaid P [] [] = Unit {0}
AreLaid P [] (e ∷ es) = ⊥
AreLaid P (place ∷ places) [] = ⊥
AreLaid P (place ∷ places) (e ∷ es) = P (laid_anew place e.1) × AreLaid P places es

-- ---- room

-- t has all the room that s has, and its tables with their schemas and pages
pub record Grows (s t : Tables) : Type 0 where
  pub rooms : (name form : List ℕ) → HasRoom form (slots_at s name) → HasRoom form (slots_at t name)
  pub schemas : (name : List ℕ) (schema : Schema) → schema_at s name ≡ Some schema → schema_at t name ≡ Some schema
  pub pages : PagesStay s t

-- a change of this store finds its room, at the form of its row
abbrev pub IsReady : Change → Option (List ℕ) → Store → Tables → Type 0
IsReady (create name schema) form store tables = schema_of store name ≡ None → schema_at tables name ≡ Some schema
IsReady (put name row) form store tables = (schema : Schema) → schema_of store name ≡ Some schema → FormsRow schema row form × HasRoomFor (slots_at tables name) form
IsReady (remove name key) form store tables = (schema : Schema) → schema_of store name ≡ Some schema → FormsKey schema key form × HasRoomFor (slots_at tables name) form

-- all changes do, one after another
abbrev pub AreReady : List Change → List (Option (List ℕ)) → Store → Tables → Type 0
AreReady [] [] store tables = Unit {0}
AreReady [] (form ∷ forms) store tables = ⊥
AreReady (change ∷ changes) [] store tables = ⊥
AreReady (change ∷ changes) (form ∷ forms) store tables = IsReady change form store tables × AreReady changes forms (apply change store) tables

-- the schema of a name once a change has its room
abbrev pub schema_after : Change → Tables → List ℕ → Option Schema
schema_after (create name schema) tables q = if bytes_eq q name then Some (unwrap_or (schema_at tables name) schema) else schema_at tables q
schema_after (put name row) tables q = schema_at tables q
schema_after (remove name key) tables q = schema_at tables q
