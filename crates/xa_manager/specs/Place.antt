-- Where the branch of an XID stands in the list, or where it would go.
use Rattle.std.specs.Prelude.{◌≡◌, ◌⊎◌, ◌<◌, ◌≤◌, ℕ, IsTrue, List, [], length, slice_index_or, None, IsSome, Result, Ok, Err}
use Rattle.xa_manager.specs.declared.table.RestoreError.{RestoreError}
use Rattle.xa_manager.specs.declared.table.RestoreError.TheVariants as error
use Rattle.drda_words.specs.Order.{precedes}
use Rattle.xa_manager.specs.declared.branch.Branch.{Branch}
use Rattle.xa_manager.specs.Branch.{state_of, in_doubt_count}
use Rattle.xa_manager.specs.declared.branch.BranchState.TheVariants.{Prepared}

-- what is read past the end
abbrev pub no_branch : Branch
no_branch = record { xid = []; state = Prepared }

-- the XID at place i
abbrev pub xid_at : List Branch → ℕ → List ℕ
xid_at bs i = (slice_index_or bs i no_branch).xid

-- the branch at place i has this XID
pub record IsAt (bs : List Branch) (xid : List ℕ) (i : ℕ) : Type 0 where
  pub in_range : i < length bs
  pub has_xid : xid_at bs i ≡ xid

-- no branch has this XID: smaller ones stand before place i, and greater ones from it on
pub record IsGapFor (bs : List Branch) (xid : List ℕ) (i : ℕ) : Type 0 where
  pub in_range : i ≤ length bs
  pub smaller_before : (j : ℕ) → j < i → IsTrue (precedes (xid_at bs j) xid)
  pub greater_after : (j : ℕ) → i ≤ j → j < length bs → IsTrue (precedes xid (xid_at bs j))

-- a branch in doubt may be added: its XID is not known, and there is room
pub record MayRestore (bs : List Branch) (xid : List ℕ) : Type 0 where
  pub unknown : state_of bs xid ≡ None
  pub known : length bs < 1024
  pub in_doubt : in_doubt_count bs < 256

-- when each answer is given to a branch in doubt that is to be added; memory may be refused where it may be added
abbrev pub Restores : {T : Type 0} → Result T RestoreError → List Branch → List ℕ → Type 0
Restores (Ok x) bs xid = MayRestore bs xid
Restores (Err error.NoMemory) bs xid = MayRestore bs xid
Restores (Err error.Known) bs xid = IsSome (state_of bs xid)
Restores (Err error.Full) bs xid = (state_of bs xid ≡ None) × ((1024 ≤ length bs) ⊎ (256 ≤ in_doubt_count bs))
