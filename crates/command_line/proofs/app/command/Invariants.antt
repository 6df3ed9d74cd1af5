use Rattle.std.proofs.Common.{drop}
use Rattle.command_line.specs.Grammar.{app_for}
use Rattle.command_line.proofs.Owning.{IsUnderWay}
use Rattle.command_line.proofs.app.command.Given as goal

abbrev pub invariant-loop-word : goal.invariant-loop-word
invariant-loop-word l = IsUnderWay (app_for l.subcommand) (drop l.word-index l.word-items) l.command
