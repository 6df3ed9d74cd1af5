use Rattle.std.proofs.Common.{◌≡◌, length}
use Rattle.session_commands.specs.Levels.{agreed_after, nothing_agreed}
use Rattle.session_commands.proofs.levels.agreed_by.Given as goal

abbrev pub invariant-entries : goal.invariant-entries
invariant-entries l = agreed_after l.agreed l.left ≡ agreed_after nothing_agreed l.asked

abbrev pub decreases-entries : goal.decreases-entries
decreases-entries l = length l.left
