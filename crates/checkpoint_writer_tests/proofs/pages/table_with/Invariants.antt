use Rattle.std.proofs.Common.{◌≡◌}
use Rattle.checkpoint_writer_tests.proofs.pages.table_with.Given as goal

abbrev pub invariant-loop-word : goal.invariant-loop-word
invariant-loop-word g l = l.table.places ≡ l.initial.table.places
