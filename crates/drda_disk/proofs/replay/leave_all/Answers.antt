use Rattle.std.proofs.Common.{◌∙◌}
use Rattle.drda_disk.proofs.Recorded.{next_rest, next_redone, next_left}
use Rattle.drda_disk.proofs.replay.leave_all.Goals as goal

pub loop-write-preserved : goal.loop-write-preserved
loop-write-preserved c =
    let rest = c.loop-write.rest.now in
    let at_rest = c.loop-write.invariant.rest in
    let bytes = c.cut.result.0.now in
    let first = c.args.file.now.items in
    let before = c.loop-write.file.items in
    let after = c.leave.new.file.items in
    record {
      rest = c.cut.ensures.later ∙ next_rest c.args.writes.now c.args.written.now c.loop-write.write-index _ c.loop-write-test.true rest at_rest;
      reaches = next_left c.args.writes.now c.args.written.now c.loop-write.write-index _ c.loop-write-test.true rest at_rest bytes c.cut.ensures.first first before after c.loop-write.invariant.reaches c.leave.ensures.torn;
      none = λ zero. c.leave.ensures.none zero ∙ c.loop-write.invariant.none zero;
      all = λ one.
          next_redone c.args.writes.now c.args.written.now c.loop-write.write-index _ c.loop-write-test.true rest at_rest bytes c.cut.ensures.first first before after (c.loop-write.invariant.all one) (c.leave.ensures.all one);
    }
