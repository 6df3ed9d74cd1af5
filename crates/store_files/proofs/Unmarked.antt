-- Blocks that are written behind a store's mark.
use Rattle.std.proofs.Common.{◌≡◌, inl, ℕ, ◌≤◌, false, List}
use Rattle.drda_disk.specs.Disk.{Life, LeavesOnly, Tears}
use Rattle.drda_disk.proofs.Moments.{and_then, no_call, weaker}
use Rattle.half_store.specs.Active.{is_marked}
use Rattle.half_store.specs.Fresh.{IsNoneOrFresh, IsUnmarked}
use Rattle.half_store.proofs.Formatted.{unmarked_none, unmarked_torn}

abbrev pub IsBare : List ℕ → Type 0
IsBare image = is_marked image ≡ false

-- one write more
pub goes_on : (at n : ℕ) (old mid new : Life) → 8 ≤ at → (IsUnmarked old → LeavesOnly old mid IsBare) → Tears at n mid new → IsUnmarked old → LeavesOnly old new IsBare
goes_on at n old mid new low run tears bare = and_then old mid new IsBare IsBare IsBare (run bare) (unmarked_torn at n mid new low tears (run bare).now) (λ c p. p) (λ c p. p)

-- before the first
pub not_yet : (old : Life) → IsUnmarked old → LeavesOnly old old IsBare
not_yet old bare = no_call old IsBare bare

-- and a store is made behind it
pub made_behind : (name : List ℕ) (old mid new : Life) → (IsUnmarked old → LeavesOnly old mid IsBare) → (IsUnmarked mid → LeavesOnly mid new (IsNoneOrFresh name)) → IsUnmarked old → LeavesOnly old new (IsNoneOrFresh name)
made_behind name old mid new blocks made bare = and_then old mid new IsBare (IsNoneOrFresh name) (IsNoneOrFresh name) (blocks bare) (made (blocks bare).now) (λ c p. inl (unmarked_none c p)) (λ c p. p)

-- blocks alone
pub blocks_alone : (name : List ℕ) (old mid : Life) → (IsUnmarked old → LeavesOnly old mid IsBare) → IsUnmarked old → LeavesOnly old mid (IsNoneOrFresh name)
blocks_alone name old mid blocks bare = weaker old mid IsBare (IsNoneOrFresh name) (blocks bare) (λ c p. inl (unmarked_none c p))
