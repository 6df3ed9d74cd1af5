use Rattle.std.specs.Prelude.{ℕ}
use Rattle.drda_disk.specs.declared.count.FaultCount.{FaultCount}

-- how many failures were counted
abbrev pub count_of : FaultCount → ℕ
count_of faults = faults.tally.value
