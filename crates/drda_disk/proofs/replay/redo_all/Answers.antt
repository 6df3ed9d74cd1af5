use Rattle.std.proofs.Common.{◌∙◌}
use Rattle.drda_disk.proofs.Recorded.{next_rest, next_redone}
use Rattle.drda_disk.proofs.replay.redo_all.Goals as goal

pub loop-write-preserved : goal.loop-write-preserved
loop-write-preserved c =
    let rest = c.loop-write.rest.now in
    let at_rest = c.loop-write.invariant.rest in
    record {
      rest = c.cut.ensures.later ∙ next_rest c.args.writes.now c.args.written.now c.loop-write.write-index _ c.loop-write-test.true rest at_rest;
      so_far = next_redone c.args.writes.now c.args.written.now c.loop-write.write-index _ c.loop-write-test.true rest at_rest c.cut.result.0.now c.cut.ensures.first
          c.args.file.now.items c.loop-write.file.items c.redo.new.file.items c.loop-write.invariant.so_far c.redo.ensures;
    }
