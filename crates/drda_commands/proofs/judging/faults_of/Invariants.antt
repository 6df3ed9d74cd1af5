use Rattle.std.proofs.Common.{◌≡◌, ◌||◌, drop}
use Rattle.std.specs.List.{list_any}
use Rattle.drda_commands.specs.Judge.{item_twice, item_missing, none_bad}
use Rattle.drda_commands.specs.Views.{given_of}
use Rattle.drda_commands.proofs.Passing.{or_later}
use Rattle.drda_commands.proofs.judging.faults_of.Given as goal

abbrev pub invariant-loop-item : goal.invariant-loop-item
invariant-loop-item l = record {
  twice : (l.faults.is_twice || list_any (item_twice (given_of l.given)) (drop l.item-index l.items)) ≡ list_any (item_twice (given_of l.given)) l.items;
  missing : (l.faults.is_missing || list_any (item_missing (given_of l.given)) (drop l.item-index l.items)) ≡ list_any (item_missing (given_of l.given)) l.items;
  bad : or_later l.faults.bad (none_bad l.unicode (drop l.item-index l.items) (given_of l.given)) ≡ none_bad l.unicode l.items (given_of l.given);
}
