use Rattle.std.proofs.Common.{◌≡◌, ◌+◌, [], length}
use Rattle.counted_streams.specs.Counts.{read_faults_of, reads_of, sink_of, source_of, write_faults_of}
use Rattle.conversation.specs.Attended.{attended_by}
use Rattle.conversation.specs.Feeding.{IsBetweenCommands}
use Rattle.stream_service.proofs.Streams.{SoFar}
use Rattle.stream_service.proofs.serving.converse.Given as goal

abbrev pub invariant-talking : goal.invariant-talking
invariant-talking g l = record {
  room : length l.buffer.items ≡ 65536;
  empty : l.replies.items ≡ [];
  settled : IsBetweenCommands l.front;
  settings : l.front.settings ≡ l.fn.front.settings;
  so_far : SoFar g.A.Ask.asks l.fn.front.settings (attended_by l.fn.front l.fn.asker) (g.R.Read.remaining (source_of l.fn.reader)) (g.R.Read.remaining (source_of l.reader)) (g.W.Write.contents (sink_of l.fn.writer)) (g.W.Write.contents (sink_of l.writer)) (attended_by l.front l.asker);
  reads : reads_of l.reader ≡ reads_of l.fn.reader + l._made;
  read_faults : read_faults_of l.reader ≡ read_faults_of l.fn.reader;
  write_faults : write_faults_of l.writer ≡ write_faults_of l.fn.writer;
}
