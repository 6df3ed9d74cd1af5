use Rattle.std.proofs.Common.{rules, ◌≡◌, ◌≤◌, ◌-◌, ◌++◌, length, ap, ◌∙◌, arith}
use Rattle.dss_frames.specs.Writing.{continuations, continued_length, next_size}
use Rattle.dss_frames.proofs.Written.{written_on, continued_step, length_bytes_length}
use Rattle.dss_frames.proofs.writing.append_continuations.Goals as goal

pub writing-preserved : goal.writing-preserved
writing-preserved c =
    let some : 1 ≤ length c.writing.rest.now = search rules in
    let step = continued_step (length c.writing.rest.now) some in
    let left : length c.split_at.result.1.now ≡ length c.writing.rest.now - next_size = omega (arith, c.split_at.ensures.back_len, c.min.ensures) in
    let same : continued_length (length c.split_at.result.1.now) ≡ continued_length (length c.writing.rest.now - next_size) = ap continued_length left in
    let two : length c.length_bytes.result ≡ 2 = ap length c.length_bytes.ensures ∙ length_bytes_length (length c.writing.rest.now) in
    record {
      room = omega (arith, step, same, two, c.append.ensures.len, c.append.ensures.capacity, c.append-in-writing.ensures.len, c.append-in-writing.ensures.capacity, c.split_at.ensures.front_len, c.min.ensures, c.writing.invariant.room);
      written =
          ap (λ b. b ++ continuations (length c.split_at.result.1.now) c.split_at.result.1.now) (c.append-in-writing.ensures.items ∙ ap (λ b. b ++ c.split_at.result.0.now) c.append.ensures.items)
          ∙ written_on c.writing.out.items _ c.writing.rest.now c.length_bytes.result c.split_at.result.0.now c.split_at.result.1.now some c.length_bytes.ensures
          (rw c.min.ensures at c.split_at.ensures.front) (rw c.min.ensures at c.split_at.ensures.back) c.writing.invariant.written;
      capacity = omega (arith, c.append.ensures.capacity, c.append-in-writing.ensures.capacity, c.writing.invariant.capacity);
    }
