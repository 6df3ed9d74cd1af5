-- The statement for which room was made is prepared, or given up where it was refused.
use Rattle.std.proofs.Common.{◌∙◌, None, ap}
use Rattle.sections.specs.Cursors.{after_reserved}
use Rattle.sections.specs.Kept.{Sections}
use Rattle.sql_commands.specs.Commands.{describing, unprepared, with_prepared}
use Rattle.sql_commands.specs.Sent.{preparation_of}
use Rattle.sql_commands.proofs.Prepared.{done_prepared, done_unprepared}
use Rattle.sql_commands.proofs.preparing.prepare_described.Goals as goal

pub returns-then-is_described-clause-ok : goal.returns-then-is_described-clause-ok
returns-then-is_described-clause-ok g c =
    let k = c.args.statements.now in
    let p = preparation_of c.args.preparing in
    done_prepared g.A.Ask.asks (describing c.args.unicode (unprepared k) (with_prepared k p) c.args.preparing.statement.now c.args.side) _ _ _ _ _ c.in_ok-reserve.ensures.list k p
    c.describe_statement-is_described.result c.prepare_reserved.new.self c.if-is_described.true
    (c.prepare_reserved.ensures ∙ ap after_reserved c.in_ok-reserve_prepare.ensures.ok)
    (c.describe_statement-is_described.ensures.done (unprepared k) (with_prepared k p))

pub returns-else-is_described-clause-ok : goal.returns-else-is_described-clause-ok
returns-else-is_described-clause-ok g c =
    let k = c.args.statements.now in
    let p = preparation_of c.args.preparing in
    done_unprepared g.A.Ask.asks (describing c.args.unicode (unprepared k) (with_prepared k p) c.args.preparing.statement.now c.args.side) _ _ _ _ _ c.in_ok-reserve.ensures.list k p
    c.describe_statement-is_described.result c.drop_reserved.new.self c.if-is_described.false
    (c.drop_reserved.ensures ∙ ap (λ (s : Sections). record s { reserved = None }) c.in_ok-reserve_prepare.ensures.ok)
    (c.describe_statement-is_described.ensures.done (unprepared k) (with_prepared k p))
