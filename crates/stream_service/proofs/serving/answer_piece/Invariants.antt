use Rattle.std.proofs.Common.{◌≡◌, ◌≤◌, ◌-◌, [], length, drop}
use Rattle.counted_streams.specs.Counts.{sink_of, write_faults_of}
use Rattle.conversation.specs.Attended.{attended_by}
use Rattle.conversation.specs.Feeding.{IsBetweenCommands}
use Rattle.stream_service.proofs.Streams.{Talked}
use Rattle.stream_service.proofs.serving.answer_piece.Given as goal

abbrev pub invariant-hearing : goal.invariant-hearing
invariant-hearing g l = record {
  within : l.taken ≤ length l.piece;
  empty : l.replies.items ≡ [];
  settled : IsBetweenCommands l.front;
  settings : l.front.settings ≡ l.fn.front.settings;
  talked : Talked g.A.Ask.asks l.fn.front.settings (attended_by l.fn.front l.fn.asker) l.piece (g.W.Write.contents (sink_of l.fn.writer)) (drop l.taken l.piece) (g.W.Write.contents (sink_of l.writer)) (attended_by l.front l.asker);
  faults : write_faults_of l.writer ≡ write_faults_of l.fn.writer;
}

abbrev pub decreases-hearing : goal.decreases-hearing
decreases-hearing g l = length l.piece - l.taken
