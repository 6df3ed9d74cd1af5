-- With the words that are left, and whether WITH stands before them, the answer is that of the whole text.
use Rattle.std.proofs.Common.{◌≡◌, length, drop}
use Rattle.std.specs.List.{slice_split}
use Rattle.command_kit.specs.Text.{has_with_hold, is_blank, words}
use Rattle.sql_commands.proofs.Holding.{found_behind}
use Rattle.sql_commands.proofs.attributes.has_with_hold.Given as goal

abbrev pub invariant-loop-word : goal.invariant-loop-word
invariant-loop-word l = record {
  next : (goal.iterator-loop-word).can_next l.word-iterator;
  finite : (goal.iterator-loop-word).is_finite l.word-iterator;
  found : found_behind l.is_behind_with (drop (length l.yielded) (slice_split is_blank l.text)) ≡ has_with_hold (words l.text);
}
