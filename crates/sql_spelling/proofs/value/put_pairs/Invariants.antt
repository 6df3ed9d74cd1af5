-- What is written, and the digits of what is left, are the whole.
use Rattle.std.proofs.Common.{◌≡◌, ◌++◌, length}
use Rattle.sql_text.specs.Spelled.{pairs_of}
use Rattle.sql_spelling.proofs.value.put_pairs.Given as goal

abbrev pub invariant-loop-bytes : goal.invariant-loop-bytes
invariant-loop-bytes l = l.out.items ++ pairs_of l.bytes ≡ l.initial.out.items ++ pairs_of l.initial.bytes

abbrev pub decreases-loop-bytes : goal.decreases-loop-bytes
decreases-loop-bytes l = length l.bytes
