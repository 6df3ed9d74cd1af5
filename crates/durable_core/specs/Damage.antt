-- When an image of a store is damaged, and at which offset.
use Rattle.std.specs.Prelude.{◌≡◌, ◌⊎◌, ℕ, ◌+◌, ◌<◌, true, List, ◌∷◌, ◌++◌, length, Option, Some, None, is_some, Ok, Err}
use Rattle.std.specs.List.{AllByRecursion}
use Rattle.drda_disk.specs.declared.region.Region.{Region}
use Rattle.half_store.specs.declared.header.Layout.{Layout}
use Rattle.half_store.specs.Active.{Store, active_of, damaged}
use Rattle.store_check.specs.Checkpoint.{HasCheckpoint, forms, half_pages}
use Rattle.store_check.specs.Half.{BreaksHalf}
use Rattle.tables.specs.Tables.{Store as Tables}
use Rattle.unit_journal.specs.Record.{Entry, laid}
use Rattle.unit_journal.specs.Stands.{IsDamagedAt as HasNoRecord, Stands}
use Rattle.unit_records.specs.Records.{IsRecord, UnitRecord, committed, decided, forgotten, heuristic, prepared}
use Rattle.recovery.specs.Durable.{Doubts, Durable, at_checkpoint, doubt_of}
use Rattle.recovery.specs.Journal.{HasNoPlace, Leads}
use Rattle.recovery.specs.Known.{AreKnown}
use Rattle.recovery.specs.Laws.{held_for}
use Rattle.recovery.specs.Opens.{IsJournal, OpensTo}

-- the head is damaged there, or the header page of a half
abbrev pub IsBadHead : List ℕ → ℕ → Type 0
IsBadHead image at = active_of image ≡ Err (damaged at)

-- the first bad page of the active half lies there
pub record HasBadPage (image : List ℕ) (at : ℕ) : Type 0 where
  pub store : Store
  pub active : active_of image ≡ Ok store
  pub bad : BreaksHalf forms image (half_pages (length image) store) at

-- the image is a store whose pages have this checkpoint, and whose journal, of this layout, lies in this region
pub record HasJournal (image : List ℕ) (layout : Layout) (checkpoint : Tables) (region : Region) : Type 0 where
  pub store : Store
  pub active : active_of image ≡ Ok store
  pub layout_is : store.header.layout ≡ layout
  pub pages : HasCheckpoint image (half_pages (length image) store) checkpoint
  pub journal : IsJournal (length image) store region

-- the region reads as records, the first of which are of the layout's kinds and lead from the checkpoint to a state; there the
-- next one has no place, or it says nothing, and its gate is at this offset
pub record IsMisplaced (layout : Layout) (checkpoint : Tables) (region : Region) (image : List ℕ) (at : ℕ) : Type 0 where
  pub before : List Entry
  pub here : Entry
  pub behind : List Entry
  pub stands : Stands region (before ++ here ∷ behind) image
  pub state : Durable
  pub known : AreKnown layout before
  pub leads : Leads (at_checkpoint checkpoint) before state
  pub no_place : HasNoPlace layout state here
  pub place : at ≡ region.at + length (laid before)

-- whose branch a record leaves in doubt: for its decision, or to be forgotten, bytes are held
abbrev pub holder : UnitRecord → Option (List ℕ)
holder (committed changes) = None
holder (prepared xid changes claims) = Some xid
holder (decided xid o) = None
holder (heuristic xid o) = Some xid
holder (forgotten xid) = None

-- an entry left one of these branches in doubt
pub record HoldsForOne (doubts : Doubts) (e : Entry) : Type 0 where
  pub said : UnitRecord
  pub is : IsRecord e.kind e.body said
  pub xid : List ℕ
  pub of : holder said ≡ Some xid
  pub in_doubt : is_some (doubt_of doubts xid) ≡ true

-- The region reads as records of the layout's kinds that lead from the checkpoint to a state, and behind them there is no room
-- for what its branches in doubt hold. The gate of the last record that left one of these in doubt is at this offset.
pub record HasNoRoom (layout : Layout) (checkpoint : Tables) (region : Region) (image : List ℕ) (at : ℕ) : Type 0 where
  pub before : List Entry
  pub here : Entry
  pub behind : List Entry
  pub stands : Stands region (before ++ here ∷ behind) image
  pub state : Durable
  pub known : AreKnown layout (before ++ here ∷ behind)
  pub leads : Leads (at_checkpoint checkpoint) (before ++ here ∷ behind) state
  pub short : region.length < length (laid (before ++ here ∷ behind)) + 1 + held_for layout state.doubts
  pub holds : HoldsForOne state.doubts here
  pub none_behind : AllByRecursion (λ e. HoldsForOne state.doubts e → ⊥) behind
  pub place : at ≡ region.at + length (laid before)

-- an open gate of the journal has no record behind it; or one of its records has no place; or what is held has no room
abbrev pub IsBadJournal : Layout → Tables → Region → List ℕ → ℕ → Type 0
IsBadJournal layout checkpoint region image at = HasNoRecord region at image ⊎ (IsMisplaced layout checkpoint region image at ⊎ HasNoRoom layout checkpoint region image at)

-- a store is damaged at this offset: in its head, at the first bad page, or in its journal
abbrev pub IsDamagedAt : List ℕ → ℕ → Type 0
IsDamagedAt image at = IsBadHead image at
    ⊎ (HasBadPage image at ⊎ ((layout : Layout) × (checkpoint : Tables) × (region : Region) × HasJournal image layout checkpoint region × IsBadJournal layout checkpoint region image at))

-- ---- laws

-- what is damaged does not open
abbrev pub DamageOpensNot : Type 0
DamageOpensNot = (name : List ℕ) (d : Durable) (image : List ℕ) (at : ℕ) → OpensTo name d image → IsDamagedAt image at → ⊥

-- and is damaged at one offset
abbrev pub OneDamage : Type 0
OneDamage = (image : List ℕ) (a b : ℕ) → IsDamagedAt image a → IsDamagedAt image b → a ≡ b
