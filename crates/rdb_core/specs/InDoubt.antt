-- The branches in doubt, lent one after another.
use Rattle.std.specs.Prelude.{◌≡◌, ℕ, List, [], ◌∷◌, filter, Option, Some, None}
use Rattle.std.specs.Borrow.{Bor}
use Rattle.xa_manager.specs.Branch.{in_doubt_xids, is_in_doubt}
use Rattle.xa_manager.specs.declared.branch.Branch.{Branch}
use Rattle.rdb_core.specs.declared.in_doubt.InDoubt.{InDoubt}

abbrev pub xids_left : InDoubt → List (List ℕ)
xids_left i = in_doubt_xids i.left.now

-- the first of those that are left is lent, and none where none is left
abbrev pub LendsXid : List (List ℕ) → Option (Bor (List ℕ)) → List (List ℕ) → Type 0
LendsXid old None new = (old ≡ []) × (new ≡ [])
LendsXid old (Some xid) new = old ≡ xid.now ∷ new

-- the branches in doubt, each its XID with its state
abbrev pub in_doubt_branches : List Branch → List Branch
in_doubt_branches bs = filter (λ b. is_in_doubt b.state) bs

abbrev pub branches_left : InDoubt → List Branch
branches_left i = in_doubt_branches i.left.now

-- the first of those that are left is lent, and none where none is left
abbrev pub LendsBranch : List Branch → Option (Bor Branch) → List Branch → Type 0
LendsBranch old None new = (old ≡ []) × (new ≡ [])
LendsBranch old (Some branch) new = old ≡ branch.now ∷ new
