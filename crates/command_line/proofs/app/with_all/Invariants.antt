use Rattle.std.proofs.Common.{◌≡◌, drop}
use Rattle.clap.specs.Words.{app_of}
use Rattle.command_line.specs.Grammar.{with_all}
use Rattle.command_line.proofs.app.with_all.Given as goal

abbrev pub invariant-loop-subcommand : goal.invariant-loop-subcommand
invariant-loop-subcommand l = with_all (app_of l.program) (drop l.subcommand-index l.subcommands) ≡ with_all (app_of l.fn.program) l.subcommands
