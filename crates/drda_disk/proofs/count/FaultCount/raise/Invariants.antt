use Rattle.std.proofs.Common.{◌+◌}
use Rattle.drda_disk.proofs.count.FaultCount.raise.Given as goal

abbrev pub ghost-set : goal.ghost-set
ghost-set a = a.self.now.value + 1
