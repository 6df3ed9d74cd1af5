-- The streams that are counted, and their counts.
use Rattle.std.specs.Prelude.{ℕ}
use Rattle.counted_streams.specs.Faults.{Counts}
use Rattle.counted_streams.specs.Tally.{times_of}
use Rattle.counted_streams.specs.declared.reader.Reader.{Reader}
use Rattle.counted_streams.specs.declared.writer.Writer.{Writer}

-- the stream that is read
abbrev pub source_of : {R : Type 0} → Reader R → R
source_of reader = reader.stream

-- the stream that is written
abbrev pub sink_of : {W : Type 0} → Writer W → W
sink_of writer = writer.stream

-- how often it was read from
abbrev pub reads_of : {R : Type 0} → Reader R → ℕ
reads_of reader = times_of reader.reads

-- how many reads have failed
abbrev pub read_faults_of : {R : Type 0} → Reader R → ℕ
read_faults_of reader = times_of reader.faults

-- how many writes and flushes have failed
abbrev pub write_faults_of : {W : Type 0} → Writer W → ℕ
write_faults_of writer = times_of writer.faults

abbrev pub counts : {R W : Type 0} → Reader R → Writer W → Counts
counts reader writer = record { reads = reads_of reader; read_faults = read_faults_of reader; write_faults = write_faults_of writer }
