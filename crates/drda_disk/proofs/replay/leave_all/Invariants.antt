use Rattle.std.proofs.Common.{◌≡◌, take, drop}
use Rattle.drda_disk.specs.Replay.{read_after, Reaches}
use Rattle.drda_disk.specs.Recorded.{steps_of, recorded_len}
use Rattle.drda_disk.proofs.replay.leave_all.Given as goal

abbrev pub invariant-loop-write : goal.invariant-loop-write
invariant-loop-write l = record {
  rest : l.rest ≡ drop (recorded_len (take l.write-index l.writes)) l.written;
  reaches : Reaches l.fn.file.items (steps_of (take l.write-index l.writes) l.written) l.file.items;
  none : l.pick ≡ 0 → l.file.items ≡ l.fn.file.items;
  all : l.pick ≡ 1 → l.file.items ≡ read_after l.fn.file.items (steps_of (take l.write-index l.writes) l.written);
}
