use Rattle.std.specs.Prelude.{option_map}
use Rattle.core_calls.specs.Answer.{answer_of}
use Rattle.drda_commands.specs.Views.{described_of}
use Rattle.sections.specs.Cursors.{section_of}
use Rattle.cursor_commands.specs.Commands as commands
use Rattle.cursor_commands.proofs.Opened.{concluded}
use Rattle.cursor_commands.proofs.opening.open_section.Goals as goal

pub returns-in-Ok-clause-ok : goal.returns-in-Ok-clause-ok
returns-in-Ok-clause-ok g c =
    concluded g.A.Ask.asks c.args.rdb.now c.args.statements.now c.args.name.now c.args.size
    (commands.query_in (option_map described_of c.args.parameters) (section_of c.args.name.now c.args.statements.now.sections))
    (answer_of c.in-Ok.answer) c.args.asker.now c.ask_section.new.asker c.conclude.new.statements c.args.replies.now.list _ c.conclude.new.replies.list
    c.in-Ok.ensures.ok c.in_ok-reserve.ensures.list c.conclude.ensures.done
