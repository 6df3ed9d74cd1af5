use Rattle.std.proofs.lemmas.List.{drop_all}
use Rattle.command_line.proofs.Owning.{next_subcommand, no_subcommand}
use Rattle.command_line.proofs.app.with_all.Goals as goal

pub loop-subcommand-preserved : goal.loop-subcommand-preserved
loop-subcommand-preserved c =
    next_subcommand _ c.args.subcommands.now c.loop-subcommand.subcommand-index _ c.loop-subcommand.program c.in_ok-command.field-0 c.in_ok-program.program c.loop-subcommand-test.true c.in_ok-command.ensures c.in_ok-program.ensures c.loop-subcommand.invariant

pub returns : goal.returns
returns c = no_subcommand _ _ _ (drop_all c.loop-subcommand.subcommand-index c.args.subcommands.now c.loop-subcommand-test.false) c.loop-subcommand.invariant
