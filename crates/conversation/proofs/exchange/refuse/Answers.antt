use Rattle.std.proofs.Common.{◌∙◌}
use Rattle.session_commands.specs.Access as answers
use Rattle.conversation.proofs.Sending.{sent_behind, taken_back}
use Rattle.conversation.proofs.exchange.refuse.Goals as goal

pub returns-in-Ok-clause-bytes : goal.returns-in-Ok-clause-bytes
returns-in-Ok-clause-bytes c =
    (sent_behind c.send_one.result c.args.link c.in-Ok.answer (answers.refused c.args.settings.now c.args.state.now.session c.args.refusal) c.args.out.now c.open_dss.new.out c.in_ok-dss.dss.at c.send_one.new.state.session c.refused.new.out.items c.send_one.new.out.items
    c.in_ok-dss.ensures.opened c.in_ok-dss.ensures.ok c.in-Ok.ensures.ok c.send_one.ensures.session c.send_one.ensures.bytes).bytes_are

pub returns-in-Err-clause-err_out : goal.returns-in-Err-clause-err_out
returns-in-Err-clause-err_out c =
    c.truncate.ensures.items ∙ taken_back c.args.out.now c.open_dss.new.out c.in_ok-dss.dss.at c.refused.new.out.items c.in_ok-dss.ensures.opened c.in_ok-dss.ensures.ok c.in-Err.ensures.err
