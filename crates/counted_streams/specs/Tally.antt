use Rattle.std.specs.Prelude.{ℕ}
use Rattle.counted_streams.specs.declared.tally.Tally.{Tally}

abbrev pub times_of : Tally → ℕ
times_of tally = tally.times.value
