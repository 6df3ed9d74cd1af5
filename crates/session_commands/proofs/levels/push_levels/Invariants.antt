use Rattle.std.proofs.Common.{◌≡◌, ◌++◌, length}
use Rattle.session_commands.proofs.Appending.{IsBehind}
use Rattle.session_commands.specs.Levels.{levels_for}
use Rattle.session_commands.proofs.levels.push_levels.Given as goal

abbrev pub invariant-entries : goal.invariant-entries
invariant-entries l = (l.out.items ++ levels_for l.left ≡ l.initial.out.items ++ levels_for l.asked)
    × IsBehind l.initial.out.items l.out.items

abbrev pub decreases-entries : goal.decreases-entries
decreases-entries l = length l.left
