-- What holds of the states that records stand for.
use Rattle.std.specs.Prelude.{◌≡◌, ℕ, ◌+◌, List, [], ◌∷◌, ◌++◌, take, Option, Some, None}
use Rattle.std.specs.Option.{option_and_then}
use Rattle.unit_records.specs.Records.{UnitRecord}
use Rattle.half_store.specs.declared.header.Layout.{Layout}
use Rattle.unit_records.specs.Room.{forgetting_taken, held, held_by, held_in_doubt, released, released_by}
use Rattle.xa_manager.specs.declared.due.Decision.{Decision}
use Rattle.recovery.specs.Durable.{Doubts, Durable, next, replayed_from}
use Rattle.recovery.specs.Known.{Releases, ReleaseAll}

-- the records of two lists, one behind the other
abbrev pub GoesOn : Type 0
GoesOn = (d : Durable) (rs more : List UnitRecord) → replayed_from d (rs ++ more) ≡ option_and_then (λ (e : Durable). replayed_from e more) (replayed_from d rs)

-- a record behind the others is one step more
abbrev pub OneMore : Type 0
OneMore = (d : Durable) (rs : List UnitRecord) (r : UnitRecord) → replayed_from d (rs ++ r ∷ []) ≡ option_and_then (λ (e : Durable). next e r) (replayed_from d rs)

-- where all records have their places, so have the first ones
abbrev pub FrontsStand : Type 0
FrontsStand = (d e : Durable) (rs : List UnitRecord) (n : ℕ) → replayed_from d rs ≡ Some e → (f : Durable) × (replayed_from d (take n rs) ≡ Some f)

-- ---- bytes that are held

-- how many bytes a branch in doubt holds back: for its decision, or to be forgotten
abbrev pub held_at : Layout → List ℕ → Option Decision → ℕ
held_at layout xid None = held_in_doubt layout xid
held_at layout xid (Some o) = forgetting_taken xid

-- and all of them
abbrev pub held_for : Layout → Doubts → ℕ
held_for layout [] = 0
held_for layout (e ∷ es) = held_at layout e.0 e.1.outcome + held_for layout es

-- a record with a place holds its bytes back, and releases those that were held for it
abbrev pub HeldForDoubts : Type 0
HeldForDoubts = (layout : Layout) (d e : Durable) (r : UnitRecord) → Releases layout d r → next d r ≡ Some e → held_for layout e.doubts + released layout r ≡ held_for layout d.doubts + held layout r

-- so do records one behind another
abbrev pub HeldForAll : Type 0
HeldForAll = (layout : Layout) (d e : Durable) (rs : List UnitRecord) → ReleaseAll layout d rs → replayed_from d rs ≡ Some e → held_for layout e.doubts + released_by layout rs ≡ held_for layout d.doubts + held_by layout rs
