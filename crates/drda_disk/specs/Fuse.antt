use Rattle.std.specs.Prelude.{ℕ, zero, suc, ◌+◌, Bool, Option, Some, None, if◌then◌else◌}
use Rattle.drda_disk.specs.Disk.{Life}

-- how many calls are left to pass, after one more call; with none for `None`
abbrev pub left_after : Bool → Option ℕ → Option ℕ
left_after once None = None
left_after once (Some zero) = if once then None else Some 0
left_after once (Some (suc more)) = Some more

abbrev pub with_more_faults : Life → ℕ → Life
with_more_faults disk n = record disk { faults = disk.faults + n }
