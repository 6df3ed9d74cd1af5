-- How many branches of a table stand so.
use Rattle.std.specs.Prelude.{◌≡◌, ℕ, Bool, List, if◌then◌else◌}
use Rattle.xa_manager.specs.declared.branch.Branch.{Branch}
use Rattle.xa_manager.specs.declared.branch.BranchState.{BranchState}
use Rattle.xa_manager.specs.Branch.{IsTable, count_of, is_active, is_in_doubt}

-- 1 where the test holds, else 0
abbrev pub weight : (BranchState → Bool) → BranchState → ℕ
weight p s = if p s then 1 else 0

-- a table, and its counts
pub record IsKept (bs : List Branch) (in_doubt active : ℕ) : Type 0 where
  pub table : IsTable bs
  pub in_doubt_is : in_doubt ≡ count_of is_in_doubt bs
  pub active_is : active ≡ count_of is_active bs
