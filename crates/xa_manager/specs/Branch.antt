-- The branches that a table knows: a list that rises by the bytes of the XIDs.
use Rattle.std.specs.Prelude.{◌≤◌, ℕ, Bool, true, false, not, ◌==◌, bytes_eq, List, [], ◌∷◌, length, map, filter, find, count_by, Option, Some, None, option_map, if◌then◌else◌}
use Rattle.drda_words.specs.Order.{precedes, IsRising}
use Rattle.xa_manager.specs.declared.branch.Branch.{Branch}
use Rattle.xa_manager.specs.declared.due.Decision.{Decision}
use Rattle.xa_manager.specs.declared.branch.BranchState.{BranchState}
use Rattle.xa_manager.specs.declared.branch.BranchState.TheVariants.{Active, Heuristic, Idle, RollbackOnly, Prepared}

-- ---- one branch

-- the conversation is joined to it
abbrev pub is_joined_by : ℕ → BranchState → Bool
is_joined_by conversation (Active joined) = joined == conversation
is_joined_by conversation (Idle _) = false
is_joined_by conversation (RollbackOnly _) = false
is_joined_by conversation Prepared = false
is_joined_by conversation (Heuristic _) = false

-- some conversation is joined to it
abbrev pub is_active : BranchState → Bool
is_active (Active _) = true
is_active (Idle _) = false
is_active (RollbackOnly _) = false
is_active Prepared = false
is_active (Heuristic _) = false

-- the conversation was the last to start or join it, and it is neither prepared nor decided heuristically
abbrev pub is_lost_with : ℕ → BranchState → Bool
is_lost_with conversation (Active last) = last == conversation
is_lost_with conversation (Idle last) = last == conversation
is_lost_with conversation (RollbackOnly last) = last == conversation
is_lost_with conversation Prepared = false
is_lost_with conversation (Heuristic _) = false

-- it waits for its transaction manager, which decides it, or forgets it where it was decided heuristically
abbrev pub is_in_doubt : BranchState → Bool
is_in_doubt (Active _) = false
is_in_doubt (Idle _) = false
is_in_doubt (RollbackOnly _) = false
is_in_doubt Prepared = true
is_in_doubt (Heuristic _) = true

-- it waits for its decision
abbrev pub is_undecided : BranchState → Bool
is_undecided (Active _) = false
is_undecided (Idle _) = false
is_undecided (RollbackOnly _) = false
is_undecided Prepared = true
is_undecided (Heuristic _) = false

-- how a branch stands that was found in doubt: prepared, or decided heuristically so
abbrev pub found_state : Option Decision → BranchState
found_state None = Prepared
found_state (Some d) = Heuristic d

-- ---- the table

-- where the branch of an XID stands, if it is known
abbrev pub state_of : List Branch → List ℕ → Option BranchState
state_of [] xid = None
state_of (b ∷ bs) xid = if bytes_eq b.xid xid then Some b.state else state_of bs xid

-- the XID that a conversation is joined to, if it is
abbrev pub joined_xid : List Branch → ℕ → Option (List ℕ)
joined_xid bs conversation = option_map (λ b. b.xid) (find (λ b. is_joined_by conversation b.state) bs)

-- how many branches stand so that a test holds
abbrev pub count_of : (BranchState → Bool) → List Branch → ℕ
count_of p bs = count_by (λ b. p b.state) bs

-- how many branches are in doubt
abbrev pub in_doubt_count : List Branch → ℕ
in_doubt_count bs = count_of is_in_doubt bs

-- the XIDs in doubt
abbrev pub in_doubt_xids : List Branch → List (List ℕ)
in_doubt_xids bs = map (λ b. b.xid) (filter (λ b. is_in_doubt b.state) bs)

-- with one more branch, in its place
abbrev pub with_branch : List Branch → Branch → List Branch
with_branch [] new = new ∷ []
with_branch (b ∷ bs) new = if precedes new.xid b.xid then new ∷ b ∷ bs else b ∷ with_branch bs new

-- with another state of an XID's branch
abbrev pub with_state : List Branch → List ℕ → BranchState → List Branch
with_state bs xid state = map (λ b. if bytes_eq b.xid xid then record { xid = b.xid; state = state } else b) bs

-- without the branch of an XID
abbrev pub without : List Branch → List ℕ → List Branch
without bs xid = filter (λ b. not (bytes_eq b.xid xid)) bs

-- without the branches that live as long as a conversation
abbrev pub without_those_of : List Branch → ℕ → List Branch
without_those_of bs conversation = filter (λ b. not (is_lost_with conversation b.state)) bs

-- what holds of every table: each XID once, by rising bytes; 1,024 branches at most, of which 256 are in doubt
pub record IsTable (bs : List Branch) : Type 0 where
  pub rising : IsRising (λ b. b.xid) bs
  pub known : length bs ≤ 1024
  pub in_doubt : in_doubt_count bs ≤ 256
