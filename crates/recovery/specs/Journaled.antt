-- What calls leave on the disk: at any moment, the tables and units in doubt after the first of the groups of records that they
-- made or began; and once they have returned, after all that they made, or with it all that was begun where the device failed.
use Rattle.std.specs.Prelude.{◌≡◌, ◌⊎◌, ℕ, ◌+◌, ◌≤◌, Bool, true, false, IsTrue, List, [], ◌∷◌, ◌++◌, length, take, Some, map, if◌then◌else◌}
use Rattle.std.specs.List.{AllByRecursion}
use Rattle.drda_disk.specs.Disk.{LeavesOnly, Life, Now, Stays}
use Rattle.drda_disk.specs.declared.region.Region.{Region}
use Rattle.unit_journal.specs.Record.{Entry, laid}
use Rattle.unit_journal.specs.Stands.{IsBeforeOrAfter, IsBeforeOrAfterAll}
use Rattle.unit_records.specs.MadeRecords.{MadeRecords, groups_of, with_begun, with_done}
use Rattle.unit_records.specs.Records.{IsGood, UnitRecord, entry_of}
use Rattle.unit_records.specs.Room.{taken, taken_by}
use Rattle.recovery.specs.Durable.{Durable, next, replayed_from}
use Rattle.half_store.specs.declared.header.Layout.{Layout}
use Rattle.recovery.specs.Known.{IsKnown}
use Rattle.recovery.specs.Laws.{held_for}
use Rattle.core_model.specs.Step.{CoreState}
use Rattle.recovery.specs.Part.{durable_part}
use Rattle.recovery.specs.Opens.{Holds, OpensTo}

-- what of a core concerns its disk
pub record Shown : Type 1 where
  pub name : List ℕ
  pub state : CoreState
  pub disk : Life
  -- the layout of its active half
  pub layout : Layout
  -- the bytes that are left in its journal
  pub room : ℕ
  -- the device has failed: the core does nothing more
  pub is_failed : Bool
  -- the records that were due of its calls, and were made or begun
  pub made : MadeRecords

-- the records of groups, those of the one after those of the other
abbrev pub all_in : List (List UnitRecord) → List UnitRecord
all_in [] = []
all_in (group ∷ groups) = group ++ all_in groups

-- an image opens to what the first of these groups lead to, from d on; of each group all records count, or none
pub record OpensAfterSome (name : List ℕ) (d : Durable) (groups : List (List UnitRecord)) (image : List ℕ) : Type 0 where
  pub count : ℕ
  pub state : Durable
  pub leads : replayed_from d (all_in (take count groups)) ≡ Some state
  pub opens : OpensTo name state image

-- to what all of them lead to
pub record OpensAfter (name : List ℕ) (d : Durable) (groups : List (List UnitRecord)) (image : List ℕ) : Type 0 where
  pub state : Durable
  pub leads : replayed_from d (all_in groups) ≡ Some state
  pub opens : OpensTo name state image

-- Once the calls have returned an image opens to what all that they made leads to; or to that with all that was begun.
abbrev pub OpensAfterAll : List ℕ → Durable → List (List UnitRecord) → List (List UnitRecord) → List ℕ → Type 0
OpensAfterAll name d made begun image = OpensAfter name d made image ⊎ OpensAfter name d (made ++ begun) image

-- While the device has not failed, each image that a crash leaves opens to what is durable of the core, and nothing is begun.
pub record IsDurable (s : Shown) : Type 0 where
  pub opens : (image : List ℕ) → Now s.disk image → OpensTo s.name (durable_part s.state) image
  pub settled : s.made.begun ≡ []

-- a device that need not give back what was written gave something else than a page: the core has failed, and no device call
pub record GaveDamage (modelled is_failed : Bool) (old new : ℕ) : Type 0 where
  pub untold : modelled ≡ false
  pub failed : is_failed ≡ true
  pub faults : new ≡ old

-- the device calls that have failed, once calls that began before any had failed are done: one more where the core has
-- failed, and else none
abbrev pub FaultsAfter : Bool → Bool → ℕ → ℕ → Type 0
FaultsAfter modelled is_failed old new = (new ≡ old + (if is_failed then 1 else 0)) ⊎ GaveDamage modelled is_failed old new

-- The calls made these groups of records, and began those, which are none unless the device failed. A crash at any moment leaves
-- an image that opens to what the first of all of them lead to; a crash now, to what all that was made leads to, or with it all
-- that was begun: so what was answered stays, though the device fails later in the same calls. What is durable of the core is
-- what leads from all that was made.
pub record Made (groups begun : List (List UnitRecord)) (old new : Shown) : Type 0 where
  pub moments : LeavesOnly old.disk new.disk (OpensAfterSome old.name (durable_part old.state) (groups ++ begun))
  pub left : (image : List ℕ) → Now new.disk image → OpensAfterAll old.name (durable_part old.state) groups begun image
  pub state : replayed_from (durable_part old.state) (all_in groups) ≡ Some (durable_part new.state)
  pub good : AllByRecursion (AllByRecursion IsGood) (groups ++ begun)
  pub made : new.made ≡ with_begun (with_done old.made (groups_of groups)) (groups_of begun)
  pub settled : new.is_failed ≡ false → begun ≡ []

-- no device call was made
pub record IsUntouched (old new : Life) : Type 0 where
  pub stays : Stays old new
  pub moment : new.moment ≡ old.moment
  pub faults : new.faults ≡ old.faults

-- nothing was written, and no device call failed
pub record IsReadOnly (old new : Life) : Type 0 where
  pub stays : Stays old new
  pub faults : new.faults ≡ old.faults

-- all is as it was, whatever was read
pub record IsRead (old new : Shown) : Type 0 where
  pub name : new.name ≡ old.name
  pub state : new.state ≡ old.state
  pub disk : IsReadOnly old.disk new.disk
  pub layout : new.layout ≡ old.layout
  pub room : new.room ≡ old.room
  pub is_failed : new.is_failed ≡ old.is_failed
  pub made : new.made ≡ old.made

-- all is as it was
pub record IsUnchanged (old new : Shown) : Type 0 where
  pub name : new.name ≡ old.name
  pub state : new.state ≡ old.state
  pub disk : IsUntouched old.disk new.disk
  pub layout : new.layout ≡ old.layout
  pub room : new.room ≡ old.room
  pub is_failed : new.is_failed ≡ old.is_failed
  pub made : new.made ≡ old.made

-- a core that has failed makes no device call
pub record StaysFailed (old new : Shown) : Type 0 where
  pub failed : new.is_failed ≡ true
  pub name : new.name ≡ old.name
  pub state : new.state ≡ old.state
  pub disk : IsUntouched old.disk new.disk
  pub layout : new.layout ≡ old.layout
  pub made : new.made ≡ old.made

-- Of any disk: records that were made stay so, each fault is one of a core that fails then, which fails else only by damage that
-- a device gave, and a core that has failed calls no device. Of a disk that gives back what was written, a core that had not
-- failed made these groups of records, and began those.
pub record Journaled (modelled : Bool) (old new : Shown) : Type 0 where
  pub name : new.name ≡ old.name
  pub more : List (List Entry)
  pub done : new.made.done ≡ old.made.done ++ more
  pub faults : old.is_failed ≡ false → FaultsAfter modelled new.is_failed old.disk.faults new.disk.faults
  pub failed : old.is_failed ≡ true → StaysFailed old new
  pub records : IsTrue modelled → old.is_failed ≡ false → (groups begun : List (List UnitRecord)) × Made groups begun old new

-- ---- laws, of cores over a disk of any type

pub record OnDisk (D : Type 0) : Type 0 where
  pub name : List ℕ
  pub state : CoreState
  pub disk : D
  pub layout : Layout
  pub room : ℕ
  pub is_failed : Bool
  pub made : MadeRecords

module _ {D : Type 0} (life : D → Life) where
  abbrev pub shown_on : OnDisk D → Shown
  shown_on s = record { name = s.name; state = s.state; disk = life s.disk; layout = s.layout; room = s.room; is_failed = s.is_failed; made = s.made }

  -- calls one after another
  pub record CallsGoOn : Type 0 where
    pub none : (modelled : Bool) (s : OnDisk D) → (IsTrue modelled → s.is_failed ≡ false → IsDurable (shown_on s)) → Journaled modelled (shown_on s) (shown_on s)
    pub both : (modelled : Bool) (a b c : OnDisk D) → Journaled modelled (shown_on a) (shown_on b) → Journaled modelled (shown_on b) (shown_on c) → Journaled modelled (shown_on a) (shown_on c)

  -- A call that makes a group of records, all or none, or begins it as the device fails.
  pub record OneGroupIsMade : Type 0 where
    pub made : (old new : OnDisk D) (layout : Layout) (region : Region) (es : List Entry) (rs : List UnitRecord)
        → Holds old.name layout region es (durable_part old.state) (life old.disk).seen → AllByRecursion IsGood rs → AllByRecursion (IsKnown layout) rs
        → replayed_from (durable_part old.state) rs ≡ Some (durable_part new.state)
        → length (laid es) + taken_by rs + 1 + held_for layout (durable_part new.state).doubts ≤ region.length
        → LeavesOnly (life old.disk) (life new.disk) (IsBeforeOrAfterAll region (life old.disk).seen es (map entry_of rs))
        → new.name ≡ old.name → IsDurable (shown_on new) → new.made ≡ with_done old.made (map entry_of rs ∷ [])
        → Made (rs ∷ []) [] (shown_on old) (shown_on new)
    pub begun : (old new : OnDisk D) (layout : Layout) (region : Region) (es : List Entry) (rs : List UnitRecord) (e : Durable)
        → Holds old.name layout region es (durable_part old.state) (life old.disk).seen → AllByRecursion IsGood rs → AllByRecursion (IsKnown layout) rs
        → replayed_from (durable_part old.state) rs ≡ Some e
        → length (laid es) + taken_by rs + 1 + held_for layout e.doubts ≤ region.length
        → LeavesOnly (life old.disk) (life new.disk) (IsBeforeOrAfterAll region (life old.disk).seen es (map entry_of rs))
        → durable_part new.state ≡ durable_part old.state → new.is_failed ≡ true → new.made ≡ with_begun old.made (map entry_of rs ∷ [])
        → Made [] (rs ∷ []) (shown_on old) (shown_on new)

  -- What is read holds what is durable of a core.
  pub record OneCallIsMade : Type 0 where
    -- so the core is durable, where a crash leaves these records and no others
    pub durable : (s : OnDisk D) (layout : Layout) (region : Region) (es : List Entry) → Holds s.name layout region es (durable_part s.state) (life s.disk).seen
        → ((image : List ℕ) → Now (life s.disk) image → IsBeforeOrAfterAll region (life s.disk).seen es [] image) → s.made.begun ≡ [] → IsDurable (shown_on s)
    -- a call that makes a record
    pub recorded : (old new : OnDisk D) (layout : Layout) (region : Region) (es : List Entry) (r : UnitRecord)
        → Holds old.name layout region es (durable_part old.state) (life old.disk).seen → IsGood r → IsKnown layout r → next (durable_part old.state) r ≡ Some (durable_part new.state)
        → length (laid es) + taken r + 1 + held_for layout (durable_part new.state).doubts ≤ region.length
        → LeavesOnly (life old.disk) (life new.disk) (IsBeforeOrAfter region (life old.disk).seen es (entry_of r))
        → new.name ≡ old.name → IsDurable (shown_on new) → new.made ≡ with_done old.made ((entry_of r ∷ []) ∷ [])
        → Made ((r ∷ []) ∷ []) [] (shown_on old) (shown_on new)
    -- a call that begins one, as the device fails
    pub begun : (old new : OnDisk D) (layout : Layout) (region : Region) (es : List Entry) (r : UnitRecord) (e : Durable)
        → Holds old.name layout region es (durable_part old.state) (life old.disk).seen → IsGood r → IsKnown layout r → next (durable_part old.state) r ≡ Some e
        → length (laid es) + taken r + 1 + held_for layout e.doubts ≤ region.length
        → LeavesOnly (life old.disk) (life new.disk) (IsBeforeOrAfter region (life old.disk).seen es (entry_of r))
        → durable_part new.state ≡ durable_part old.state → new.is_failed ≡ true → new.made ≡ with_begun old.made ((entry_of r ∷ []) ∷ [])
        → Made [] ((r ∷ []) ∷ []) (shown_on old) (shown_on new)
    -- a call that makes none, though the device may fail in it
    pub silent : (old new : OnDisk D) → IsDurable (shown_on old) → Stays (life old.disk) (life new.disk)
        → durable_part new.state ≡ durable_part old.state → new.made ≡ old.made
        → Made [] [] (shown_on old) (shown_on new)
    -- a call that writes behind the records alone, though the device may fail in it
    pub laid_ahead : (old new : OnDisk D) (layout : Layout) (region : Region) (es : List Entry)
        → Holds old.name layout region es (durable_part old.state) (life old.disk).seen
        → LeavesOnly (life old.disk) (life new.disk) (IsBeforeOrAfterAll region (life old.disk).seen es [])
        → durable_part new.state ≡ durable_part old.state → new.made ≡ old.made
        → Made [] [] (shown_on old) (shown_on new)
    -- a call that changes nothing, of a core that has failed or of any
    pub failed : (old new : OnDisk D) → old.is_failed ≡ true → new ≡ old → StaysFailed (shown_on old) (shown_on new)
    pub unchanged : (old new : OnDisk D) → new ≡ old → IsUnchanged (shown_on old) (shown_on new)
    -- what is only read is left
    pub read_only : (old new : D) → Stays (life old) (life new) → LeavesOnly (life old) (life new) (Now (life old))

  -- Each image that a crash leaves now has what was answered: it opens to all that is durable of the core; or, where the device
  -- has failed, to what all that was begun then leads to from there.
  pub record AnsweredStays : Type 0 where
    pub going : (groups : List (List UnitRecord)) (old new : OnDisk D) (image : List ℕ) → Made groups [] (shown_on old) (shown_on new) → Now (life new.disk) image → OpensTo old.name (durable_part new.state) image
    pub failed : (groups begun : List (List UnitRecord)) (old new : OnDisk D) (image : List ℕ) → Made groups begun (shown_on old) (shown_on new) → Now (life new.disk) image
        → OpensTo old.name (durable_part new.state) image ⊎ ((state : Durable) × (replayed_from (durable_part new.state) (all_in begun) ≡ Some state) × OpensTo old.name state image)
