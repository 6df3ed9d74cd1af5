use Rattle.std.proofs.Common.{◌≡◌, ◌+◌, ◌-◌, drop, Some, sym, ap, ◌∙◌, arith}
use Rattle.dss_frames.specs.Joining.{segment_in}
use Rattle.dss_frames.proofs.Joins.{segment_bounds, first_joined, next_joined, next_missing, all_joined, drop_further, behind_three}
use Rattle.dss_frames.proofs.joining.join_dss.Goals as goal

pub joining-init : goal.joining-init
joining-init c =
    let e : segment_in 6 (c.args.end - c.args.from) (drop c.args.from c.args.buf.now.items) ≡ Some (c.in-Some.size, c.in-Some.continued) =
    sym (rw c.deref.ensures.value at c.segment_at.ensures) ∙ c.in-Some.is in
    let bounds = segment_bounds 6 (c.args.end - c.args.from) (drop c.args.from c.args.buf.now.items) c.in-Some.size c.in-Some.continued e in
    record {
      down = omega arith;
      before = omega arith;
      above = omega arith;
      further = omega arith;
      len = c.move_down.ensures.len;
      kept = drop_further (c.args.from + c.in-Some.size) c.args.end c.move_down.new.buf.items c.args.buf.now.items (omega arith) c.move_down.ensures.rest;
      joined = λ dss part after parts fits is. first_joined c.args.buf.now.items c.move_down.new.buf.items c.args.from c.args.to c.args.end c.in-Some.size c.in-Some.continued dss part after parts fits is e c.move_down.ensures.front c.move_down.ensures.rest;
    }

pub returns-in_default-segment_at-clause-joined : goal.returns-in_default-segment_at-clause-joined
returns-in_default-segment_at-clause-joined c = λ dss part after parts fits is.
    let so_far = c.joining.invariant.joined dss part after parts fits is in
    absurd (next_missing c.args.buf.now.items c.joining.buf.items c.args.from c.args.to c.joining.next c.joining.behind c.args.end c.joining.more dss part after c.joining-test.true fits so_far (sym (rw c.deref-in-joining.ensures.value at c.in_default-segment_at.ensures)))

pub joining-preserved : goal.joining-preserved
joining-preserved c =
    let e : segment_in 3 (c.args.end - c.joining.next) (drop c.joining.next c.joining.buf.items) ≡ Some (c.in-Some-segment_at.size, c.in-Some-segment_at.continued) =
    sym (rw c.deref-in-joining.ensures.value at c.segment_at-in-joining.ensures) ∙ c.in-Some-segment_at.is in
    let bounds = segment_bounds 3 (c.args.end - c.joining.next) (drop c.joining.next c.joining.buf.items) c.in-Some-segment_at.size c.in-Some-segment_at.continued e in
    record {
      down = omega arith;
      before = omega arith;
      above = omega arith;
      further = omega arith;
      len = c.move_down-in-joining.ensures.len ∙ c.joining.invariant.len;
      kept = drop_further (c.joining.next + 2 + (c.in-Some-segment_at.size - 2)) c.args.end c.move_down-in-joining.new.buf.items c.joining.buf.items (omega arith) c.move_down-in-joining.ensures.rest ∙ c.joining.invariant.kept;
      joined = λ dss part after parts fits is. next_joined c.args.buf.now.items c.joining.buf.items c.move_down-in-joining.new.buf.items c.args.from c.args.to c.joining.next c.joining.behind c.args.end
          c.in-Some-segment_at.size c.joining.more c.in-Some-segment_at.continued dss part after c.joining-test.true fits (c.joining.invariant.joined dss part after parts fits is) e c.move_down-in-joining.ensures.front c.move_down-in-joining.ensures.rest;
    }

pub returns-clause-joined : goal.returns-clause-joined
returns-clause-joined c = λ dss part after parts fits is.
    all_joined c.args.buf.now.items c.joining.buf.items c.set_count.new.buf.items c.args.from c.args.to c.joining.next c.joining.behind c.args.end c.joining.more dss part after c.joining-test.false (omega (arith, c.args.buf.now.ok.0)) (omega (arith, c.joining.buf.ok.0)) c.joining.invariant.down is
    (c.joining.invariant.joined dss part after parts fits is) c.set_count.ensures.items

pub returns-clause-rest : goal.returns-clause-rest
returns-clause-rest c =
    ap (drop c.args.end) c.set_count.ensures.items
    ∙ behind_three c.joining.buf.items c.args.to c.args.end _ _ _ (omega (arith, c.joining.buf.ok.0)) (omega arith)
    ∙ c.joining.invariant.kept
