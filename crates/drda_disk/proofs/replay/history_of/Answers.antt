use Rattle.std.proofs.Common.{[], ◌∷◌, ◌∙◌}
use Rattle.drda_disk.specs.Replay.{wrote, synced}
use Rattle.drda_disk.proofs.Recorded.{next_rest, next_noted}
use Rattle.drda_disk.proofs.replay.history_of.Goals as goal

pub loop-write-preserved : goal.loop-write-preserved
loop-write-preserved c =
    let rest = c.loop-write.rest.now in
    let at_rest = c.loop-write.invariant.rest in
    record {
      rest = c.cut.ensures.later ∙ next_rest c.args.writes.now c.args.written.now c.loop-write.write-index _ c.loop-write-test.true rest at_rest;
      so_far = next_noted c.args.writes.now c.args.written.now c.loop-write.write-index _ c.loop-write-test.true rest at_rest c.cut.result.0.now c.cut.ensures.first
          (synced ∷ (wrote 0 c.args.durable.now ∷ [])) c.loop-write.history.steps.value c.note_write.new.self.steps.value c.loop-write.invariant.so_far c.note_write.ensures;
    }
