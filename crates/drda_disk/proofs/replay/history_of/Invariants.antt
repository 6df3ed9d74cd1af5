use Rattle.std.proofs.Common.{◌≡◌, take, drop, [], ◌∷◌, ◌++◌}
use Rattle.drda_disk.specs.Replay.{wrote, synced}
use Rattle.drda_disk.specs.Recorded.{steps_of, recorded_len}
use Rattle.drda_disk.proofs.replay.history_of.Given as goal

abbrev pub invariant-loop-write : goal.invariant-loop-write
invariant-loop-write l = record {
  rest : l.rest ≡ drop (recorded_len (take l.write-index l.writes)) l.written;
  so_far : l.history.steps.value ≡ steps_of (take l.write-index l.writes) l.written ++ synced ∷ (wrote 0 l.durable ∷ []);
}
