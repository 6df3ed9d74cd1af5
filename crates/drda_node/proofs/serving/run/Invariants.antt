use Rattle.std.proofs.Common.{◌≡◌, ◌+◌, ◌≤◌, length}
use Rattle.counted_streams.specs.Counts.{read_faults_of, reads_of, sink_of, source_of, write_faults_of}
use Rattle.drda_node.specs.Asking.{IsJournaled}
use Rattle.drda_node.specs.Calls.{HasHistory}
use Rattle.drda_node.specs.Register.{core_in, machine}
use Rattle.drda_node.proofs.Runs.{SoFar}
use Rattle.drda_node.proofs.Stations.{Along}
use Rattle.drda_node.specs.Stations.{first_station}
use Rattle.drda_node.proofs.serving.run.Given as goal

abbrev pub invariant-events : goal.invariant-events
invariant-events g l = record {
  room : length l.buffer.items ≡ 65536;
  journaled : IsJournaled g.D.Disk.is_modelled g.D.Disk.life (core_in l.fn.node) (core_in l.node);
  history : HasHistory (machine l.fn.node).core (machine l.node).core;
  so_far : SoFar (machine l.fn.node) (g.R.Read.remaining (source_of l.fn.reader)) (g.R.Read.remaining (source_of l.reader)) (g.W.Write.contents (sink_of l.fn.writer)) (g.W.Write.contents (sink_of l.writer)) l.gathered.items (machine l.node);
  along : Along g.D.Disk.is_modelled g.D.Disk.life (first_station (machine l.fn.node) (core_in l.fn.node)) (g.R.Read.remaining (source_of l.fn.reader)) (g.R.Read.remaining (source_of l.reader)) (g.W.Write.contents (sink_of l.fn.writer)) (g.W.Write.contents (sink_of l.writer)) l.gathered.items
      (machine l.node) (core_in l.node);
  made : reads_of l.fn.reader + l._answered ≤ reads_of l.reader;
  read_faults : read_faults_of l.reader ≡ read_faults_of l.fn.reader;
  write_faults : write_faults_of l.writer ≡ write_faults_of l.fn.writer;
}
