use Rattle.std.proofs.Common.{◌≡◌, ◌≤◌, ◌-◌, length, take}
use Rattle.std.specs.Io.KnownBytes.{Appends}
use Rattle.counted_streams.specs.Counts.{sink_of, write_faults_of}
use Rattle.counted_streams.proofs.writer.Writer.write_whole.Given as goal

abbrev pub invariant-writing : goal.invariant-writing
invariant-writing g l = record {
  within : l.at ≤ length l.bytes;
  wrote : Appends (g.W.Write.contents (sink_of l.fn.self)) (g.W.Write.contents (sink_of l.self)) (take l.at l.bytes);
  faults : write_faults_of l.self ≡ write_faults_of l.fn.self;
}

abbrev pub decreases-writing : goal.decreases-writing
decreases-writing g l = length l.bytes - l.at
