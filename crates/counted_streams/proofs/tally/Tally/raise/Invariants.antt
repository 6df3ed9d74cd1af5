use Rattle.std.proofs.Common.{◌+◌}
use Rattle.counted_streams.proofs.tally.Tally.raise.Given as goal

abbrev pub ghost-set : goal.ghost-set
ghost-set a = a.self.now.value + 1
