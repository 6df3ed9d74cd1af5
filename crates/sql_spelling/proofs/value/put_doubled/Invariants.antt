-- What is written, and what is left with its quotes doubled, are the whole.
use Rattle.std.proofs.Common.{◌≡◌, ◌++◌, length}
use Rattle.sql_lex.specs.Spelling.{doubled}
use Rattle.sql_spelling.proofs.value.put_doubled.Given as goal

abbrev pub invariant-loop-bytes : goal.invariant-loop-bytes
invariant-loop-bytes l = l.out.items ++ doubled l.bytes ≡ l.initial.out.items ++ doubled l.initial.bytes

abbrev pub decreases-loop-bytes : goal.decreases-loop-bytes
decreases-loop-bytes l = length l.bytes
