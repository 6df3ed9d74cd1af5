-- What images open to: one state at most, and what records and calls make of it.
use Rattle.std.specs.Prelude.{◌≡◌, ◌⊎◌, ℕ, ◌+◌, ◌≤◌, List, [], ◌∷◌, ◌++◌, length, map, Some, Ok}
use Rattle.std.specs.List.{AllByRecursion}
use Rattle.drda_disk.specs.Region.{SameOutside}
use Rattle.drda_disk.specs.declared.region.Region.{Region}
use Rattle.half_store.specs.Active.{Store, active_of}
use Rattle.half_store.specs.Fresh.{IsFresh}
use Rattle.unit_journal.specs.Record.{Entry, laid}
use Rattle.unit_journal.specs.Stands.{IsBeforeOrAfter, IsBeforeOrAfterAll, Stands}
use Rattle.unit_records.specs.Records.{IsGood, UnitRecord, entry_of}
use Rattle.unit_records.specs.Room.{taken, taken_by}
use Rattle.recovery.specs.Durable.{Durable, fresh, next, replayed_from}
use Rattle.half_store.specs.declared.header.Layout.{Layout}
use Rattle.half_store.specs.declared.header.Layout.TheVariants.{Two}
use Rattle.recovery.specs.Known.{IsKnown}
use Rattle.recovery.specs.Laws.{held_for}
use Rattle.recovery.specs.Opens.{Holds, IsJournal, OpensTo}

-- an image opens to one state at most, under one name
abbrev pub OpensToOne : Type 0
OpensToOne = (name other : List ℕ) (d e : Durable) (image : List ℕ) → OpensTo name d image → OpensTo other e image → (name ≡ other) × (d ≡ e)

-- an image that opens is that store, and what it opens to stands there
pub record IsThere (name : List ℕ) (d : Durable) (image : List ℕ) (store : Store) (region : Region) : Type 0 where
  pub named : store.name ≡ name
  pub es : List Entry
  pub holds : Holds name store.header.layout region es d image

abbrev pub OpensThere : Type 0
OpensThere = (name : List ℕ) (d : Durable) (image : List ℕ) (store : Store) (region : Region)
    → OpensTo name d image → active_of image ≡ Ok store → IsJournal (length image) store region → IsThere name d image store region

-- Where a record is added that has its place and finds room, an image from before or after it opens to the state
-- before it or behind it.
abbrev pub RecordsOpen : Type 0
RecordsOpen =
    (name : List ℕ) (layout : Layout) (region : Region) (es : List Entry) (d e : Durable) (r : UnitRecord) (seen image : List ℕ)
    → Holds name layout region es d seen → IsGood r → IsKnown layout r → next d r ≡ Some e
    → length (laid es) + taken r + 1 + held_for layout e.doubts ≤ region.length
    → IsBeforeOrAfter region seen es (entry_of r) image
    → Holds name layout region es d image ⊎ Holds name layout region (es ++ entry_of r ∷ []) e image

-- and where the record is there, to the state behind it
abbrev pub RecordsStay : Type 0
RecordsStay =
    (name : List ℕ) (layout : Layout) (region : Region) (es : List Entry) (d e : Durable) (r : UnitRecord) (seen image : List ℕ)
    → Holds name layout region es d seen → IsGood r → IsKnown layout r → next d r ≡ Some e
    → length (laid es) + taken r + 1 + held_for layout e.doubts ≤ region.length
    → SameOutside region seen image → Stands region (es ++ entry_of r ∷ []) image
    → Holds name layout region (es ++ entry_of r ∷ []) e image

-- the same of records that are added together, which have their places one behind another
abbrev pub GroupsOpen : Type 0
GroupsOpen =
    (name : List ℕ) (layout : Layout) (region : Region) (es : List Entry) (d e : Durable) (rs : List UnitRecord) (seen image : List ℕ)
    → Holds name layout region es d seen → AllByRecursion IsGood rs → AllByRecursion (IsKnown layout) rs → replayed_from d rs ≡ Some e
    → length (laid es) + taken_by rs + 1 + held_for layout e.doubts ≤ region.length
    → IsBeforeOrAfterAll region seen es (map entry_of rs) image
    → Holds name layout region es d image ⊎ Holds name layout region (es ++ map entry_of rs) e image

abbrev pub GroupsStay : Type 0
GroupsStay =
    (name : List ℕ) (layout : Layout) (region : Region) (es : List Entry) (d e : Durable) (rs : List UnitRecord) (seen image : List ℕ)
    → Holds name layout region es d seen → AllByRecursion IsGood rs → AllByRecursion (IsKnown layout) rs → replayed_from d rs ≡ Some e
    → length (laid es) + taken_by rs + 1 + held_for layout e.doubts ≤ region.length
    → SameOutside region seen image → Stands region (es ++ map entry_of rs) image
    → Holds name layout region (es ++ map entry_of rs) e image

-- a store that was just made has no tables, and no records
abbrev pub FreshStoresOpen : Type 0
FreshStoresOpen = (name image : List ℕ) → IsFresh name image → (region : Region) × Holds name Two region [] fresh image
