use Rattle.std.proofs.Common.{◌≡◌, ◌≤◌, ◌+◌, ◌-◌, length, min, take}
use Rattle.std.specs.Io.KnownBytes.{Consumes}
use Rattle.counted_streams.specs.Counts.{read_faults_of, reads_of, source_of}
use Rattle.drda_node.proofs.reading.fill.Given as goal

abbrev pub invariant-reading : goal.invariant-reading
invariant-reading g l = record {
  same_length : length l.buffer ≡ length l.fn.buffer;
  within : l.at ≤ length l.buffer;
  consumed : Consumes (g.R.Read.remaining (source_of l.fn.reader)) (g.R.Read.remaining (source_of l.reader)) (take l.at l.buffer);
  made : reads_of l.fn.reader + min 1 l.at ≤ reads_of l.reader;
  faults : read_faults_of l.reader ≡ read_faults_of l.fn.reader;
}

abbrev pub decreases-reading : goal.decreases-reading
decreases-reading g l = length l.buffer - l.at
