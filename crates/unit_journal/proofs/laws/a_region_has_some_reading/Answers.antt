use Rattle.std.proofs.Common.{◌+◌, arith}
use Rattle.unit_journal.proofs.SomeReading.{some_reading}
use Rattle.unit_journal.proofs.laws.a_region_has_some_reading.Goals as goal

pub returns : goal.returns
returns c region image bytes some inside = some_reading (region.at + region.length) image bytes inside region.at (omega (arith, some))
