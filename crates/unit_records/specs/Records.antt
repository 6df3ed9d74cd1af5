-- What a record of the journal says of a unit of work, and its bytes. Numbers have the high byte first.
--   commit: the unit's changes
--   prepare: the branch's XID, the unit's claims, its changes
--   decide: the branch's XID, then 01 commit or 02 roll back
--   heuristic: the same
--   forget: the branch's XID
-- Claims and changes stand behind their number, which has four bytes. An XID, a change and a claim have the
-- bytes that they have elsewhere. Nothing follows the last part.
use Rattle.std.specs.Prelude.{◌≡◌, ℕ, List, [], ◌∷◌, ◌++◌, true}
use Rattle.tables.specs.Change.{Change, change_bytes, is_change}
use Rattle.unit_locks.specs.Claim.{Claim, IsClaim, claim_bytes}
use Rattle.xa_calls.specs.Xid.{IsXid}
use Rattle.xa_manager.specs.declared.due.Decision.{Decision}
use Rattle.xa_manager.specs.declared.due.Decision.TheVariants as decision
use Rattle.unit_journal.specs.declared.kind.Kind.{Kind}
use Rattle.unit_journal.specs.declared.kind.Kind.TheVariants.{Commit, Prepare, Decide, Heuristic, Forget}
use Rattle.unit_journal.specs.Record.{Entry}
use Rattle.unit_records.specs.Fronts.{AreListed, listed}

pub data UnitRecord : Type 0 where
  -- a unit committed, with these changes in their order
  committed : List Change → UnitRecord
  -- the branch of an XID was prepared and is in doubt: the changes of its unit, and its claims
  prepared : List ℕ → List Change → List Claim → UnitRecord
  -- the branch of an XID, which was in doubt, was decided
  decided : List ℕ → Decision → UnitRecord
  -- the branch of an XID was decided heuristically: where it was in doubt its unit has ended so
  heuristic : List ℕ → Decision → UnitRecord
  -- the branch of an XID, which was decided heuristically, was forgotten
  forgotten : List ℕ → UnitRecord

abbrev pub kind_of : UnitRecord → Kind
kind_of (committed changes) = Commit
kind_of (prepared xid changes claims) = Prepare
kind_of (decided xid o) = Decide
kind_of (heuristic xid o) = Heuristic
kind_of (forgotten xid) = Forget

-- ---- the bytes

abbrev pub decision_byte : Decision → ℕ
decision_byte decision.Commit = 1
decision_byte decision.RollBack = 2

abbrev pub record_bytes : UnitRecord → List ℕ
record_bytes (committed changes) = listed change_bytes changes
record_bytes (prepared xid changes claims) = xid ++ (listed claim_bytes claims ++ listed change_bytes changes)
record_bytes (decided xid o) = xid ++ decision_byte o ∷ []
record_bytes (heuristic xid o) = xid ++ decision_byte o ∷ []
record_bytes (forgotten xid) = xid

-- as the journal has it
abbrev pub entry_of : UnitRecord → Entry
entry_of r = record { kind = kind_of r; body = record_bytes r }

-- ---- what can be written

abbrev pub IsChange : Change → Type 0
IsChange change = is_change change ≡ true

-- the XID names a branch, each change and claim can be written, and their numbers have four bytes
abbrev pub IsGood : UnitRecord → Type 0
IsGood (committed changes) = AreListed IsChange changes
IsGood (prepared xid changes claims) = IsXid xid × AreListed IsClaim claims × AreListed IsChange changes
IsGood (decided xid o) = IsXid xid
IsGood (heuristic xid o) = IsXid xid
IsGood (forgotten xid) = IsXid xid

-- ---- reading

-- a record of this kind with this body says this
pub record IsRecord (kind : Kind) (body : List ℕ) (r : UnitRecord) : Type 0 where
  pub same_kind : kind ≡ kind_of r
  pub bytes : body ≡ record_bytes r
  pub good : IsGood r
