use Rattle.std.proofs.Common.{◌-◌, ◌≡◌, ◌≤◌, false, length}
use Rattle.drda_disk.specs.Disk.{LeavesOnly}
use Rattle.half_store.specs.Active.{is_marked}
use Rattle.half_store.specs.Fresh.{IsUnmarked}
use Rattle.store_files.proofs.blocks.reserve_blocks.Given as goal

abbrev pub invariant-loop-at : goal.invariant-loop-at
invariant-loop-at g l =
    (length (g.D.Disk.life l.disk).seen ≡ l.size) × (8192 ≤ l.at) × (length l.zeros.items ≡ 1048576)
    × (IsUnmarked (g.D.Disk.life l.fn.disk) → LeavesOnly (g.D.Disk.life l.fn.disk) (g.D.Disk.life l.disk) (λ image. is_marked image ≡ false))

abbrev pub decreases-loop-at : goal.decreases-loop-at
decreases-loop-at g l = l.size - l.at
