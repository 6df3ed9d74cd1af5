use Rattle.std.proofs.Common.{◌≡◌, ◌≤◌, ◌+◌, ◌++◌, length, vec_len}
use Rattle.std.specs.Prelude.{vec_capacity}
use Rattle.dss_frames.specs.Writing.{continuations, continued_length}
use Rattle.dss_frames.proofs.writing.append_continuations.Given as goal

abbrev pub invariant-writing : goal.invariant-writing
invariant-writing l = record {
  room : vec_len l.out + continued_length (length l.rest) ≤ vec_capacity l.out;
  written : l.out.items ++ continuations (length l.rest) l.rest ≡ l.fn.out.items ++ continuations (length l.bytes) l.bytes;
  capacity : vec_capacity l.fn.out ≤ vec_capacity l.out;
}

abbrev pub decreases-writing : goal.decreases-writing
decreases-writing l = length l.rest
