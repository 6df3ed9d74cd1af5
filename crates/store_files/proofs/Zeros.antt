-- A disk of zeros is no store.
use Rattle.std.proofs.Common.{◌≡◌, ◌∙◌, refl, ap, ℕ, zero, suc, false, replicate}
use Rattle.drda_disk.specs.Disk.{Life, Only}
use Rattle.half_store.specs.Active.{is_marked}
use Rattle.half_store.specs.Fresh.{IsUnmarked}

zeros_unmarked : (size : ℕ) → is_marked (replicate size 0) ≡ false
zeros_unmarked zero = refl
zeros_unmarked (suc n) = refl

-- a disk of zeros does not begin as a store
pub unmarked : (disk : Life) (size : ℕ) → disk.seen ≡ replicate size 0 → Only disk → IsUnmarked disk
unmarked disk size zeros only image now = ap is_marked (only image now ∙ zeros) ∙ zeros_unmarked size
