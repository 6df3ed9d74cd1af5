-- How many bytes of a journal records take, hold back and release. In layout 1 a branch in doubt is decided by its transaction
-- manager alone, and holds the bytes of that; in layout 2 it holds those of a heuristic decision and of its forgetting.
use Rattle.std.specs.Prelude.{◌≡◌, ℕ, ◌+◌, ◌*◌, ◌≤◌, List, [], ◌∷◌, length}
use Rattle.half_store.specs.declared.header.Layout.{Layout}
use Rattle.half_store.specs.declared.header.Layout.TheVariants.{One, Two}
use Rattle.tables.specs.Change.{Change}
use Rattle.unit_locks.specs.Claim.{Claim}
use Rattle.xa_calls.specs.Xid.{Parts, wire}
use Rattle.xa_manager.specs.declared.due.Decision.{Decision}
use Rattle.unit_records.specs.Records.{UnitRecord, committed, decided, forgotten, heuristic, prepared, record_bytes}

-- a record with its gate, its kind and its length
abbrev pub taken : UnitRecord → ℕ
taken r = 6 + length (record_bytes r)

-- what the decision of a branch takes, whichever it is, and whoever makes it
abbrev pub decision_taken : List ℕ → ℕ
decision_taken xid = 7 + length xid

-- what the forgetting of a branch takes
abbrev pub forgetting_taken : List ℕ → ℕ
forgetting_taken xid = 6 + length xid

-- what a branch in doubt holds back besides its decision
abbrev pub held_behind : Layout → List ℕ → ℕ
held_behind One xid = 0
held_behind Two xid = forgetting_taken xid

-- what a branch in doubt holds back
abbrev pub held_in_doubt : Layout → List ℕ → ℕ
held_in_doubt layout xid = decision_taken xid + held_behind layout xid

-- a prepare holds that back
abbrev pub held : Layout → UnitRecord → ℕ
held layout (committed changes) = 0
held layout (prepared xid changes claims) = held_in_doubt layout xid
held layout (decided xid o) = 0
held layout (heuristic xid o) = 0
held layout (forgotten xid) = 0

-- a decision releases all of it, a heuristic one but what its forgetting takes
abbrev pub released : Layout → UnitRecord → ℕ
released layout (committed changes) = 0
released layout (prepared xid changes claims) = 0
released layout (decided xid o) = held_in_doubt layout xid
released layout (heuristic xid o) = decision_taken xid
released layout (forgotten xid) = forgetting_taken xid

-- of records one behind another
abbrev pub taken_by : List UnitRecord → ℕ
taken_by [] = 0
taken_by (r ∷ rs) = taken r + taken_by rs

abbrev pub held_by : Layout → List UnitRecord → ℕ
held_by layout [] = 0
held_by layout (r ∷ rs) = held layout r + held_by layout rs

abbrev pub released_by : Layout → List UnitRecord → ℕ
released_by layout [] = 0
released_by layout (r ∷ rs) = released layout r + released_by layout rs

-- ---- laws

-- a decision takes no more than its prepare held back for it
abbrev pub DecisionsFit : Type 0
DecisionsFit = (layout : Layout) (xid : List ℕ) (changes : List Change) (claims : List Claim) (o : Decision) → taken (decided xid o) ≤ held layout (prepared xid changes claims)

-- so it needs no room besides; nor does a heuristic one, nor its forgetting
abbrev pub DecisionsNeedNoRoom : Type 0
DecisionsNeedNoRoom = (layout : Layout) (xid : List ℕ) (o : Decision) → (taken (decided xid o) + held layout (decided xid o) ≤ released layout (decided xid o))
    × (taken (heuristic xid o) + held layout (heuristic xid o) ≡ released layout (heuristic xid o))
    × (taken (forgotten xid) + held layout (forgotten xid) ≡ released layout (forgotten xid))

-- in layout 2 a prepare holds all that a heuristic decision and its forgetting release
abbrev pub HeuristicsFit : Type 0
HeuristicsFit = (xid : List ℕ) (changes : List Change) (claims : List Claim) (o : Decision) → held Two (prepared xid changes claims) ≡ released Two (heuristic xid o) + released Two (forgotten xid)

-- these are 19 bytes and the two parts of the XID in layout 1, and 37 and twice the parts in layout 2
abbrev pub DecisionsAreShort : Type 0
DecisionsAreShort = (p : Parts) → (held_in_doubt One (wire p) ≡ 19 + length p.global + length p.branch)
    × (held_in_doubt Two (wire p) ≡ 37 + 2 * (length p.global + length p.branch))
