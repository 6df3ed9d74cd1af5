use Rattle.std.proofs.Common.{ap}
use Rattle.core_calls.specs.Answer.{answer_of}
use Rattle.paged_tables.specs.PagedTables.{store_in}
use Rattle.unit_table.specs.Owner.{plain_owner}
use Rattle.unit_statements.specs.Question.{question_of}
use Rattle.rdb_core.specs.State.{state_of}
use Rattle.rdb_core.proofs.Looking.{asked_over, asks_for_rows}
use Rattle.rdb_core.proofs.engine.Core.ask.Goals as goal

pub returns-in-Ok-clause-step : goal.returns-in-Ok-clause-step
returns-in-Ok-clause-step g c =
    asked_over g.R.Recorder.records g.R.Recorder.fails g.R.Source.reads g.R.Source.fails_to_read (state_of c.args.self.now) c.args.conversation (question_of c.args.question) (asks_for_rows c.args.question) (answer_of c.in-Ok.answer)
    c.ask.new.self.units c.args.self.now.recorder c.ask.new.source (store_in c.ask.new.self.tables) (ap store_in c.ask.ensures.tables) g.R.Source.is_told (plain_owner c.owner-owner.result) c.owner-owner.ensures c.in-Ok.ensures.given
