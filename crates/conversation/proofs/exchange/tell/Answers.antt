use Rattle.std.proofs.Common.{◌∙◌}
use Rattle.drda_commands.specs.Views.{given_of}
use Rattle.session_commands.specs.Access as answers
use Rattle.conversation.proofs.Sending.{sent_behind, taken_back}
use Rattle.conversation.proofs.exchange.tell.Goals as goal

pub returns-in-Ok-clause-session : goal.returns-in-Ok-clause-session
returns-in-Ok-clause-session c =
    (sent_behind c.send_one.result c.args.link c.in-Ok.answer (answers.answered_at_once c.args.settings.now c.args.state.now.session c.args.what (given_of c.args.given)) c.args.out.now c.open_dss.new.out c.in_ok-dss.dss.at c.send_one.new.state.session c.answered_at_once.new.out.items c.send_one.new.out.items
    c.in_ok-dss.ensures.opened c.in_ok-dss.ensures.ok c.in-Ok.ensures.ok c.send_one.ensures.session c.send_one.ensures.bytes).session_is

pub returns-in-Ok-clause-bytes : goal.returns-in-Ok-clause-bytes
returns-in-Ok-clause-bytes c =
    (sent_behind c.send_one.result c.args.link c.in-Ok.answer (answers.answered_at_once c.args.settings.now c.args.state.now.session c.args.what (given_of c.args.given)) c.args.out.now c.open_dss.new.out c.in_ok-dss.dss.at c.send_one.new.state.session c.answered_at_once.new.out.items c.send_one.new.out.items
    c.in_ok-dss.ensures.opened c.in_ok-dss.ensures.ok c.in-Ok.ensures.ok c.send_one.ensures.session c.send_one.ensures.bytes).bytes_are

pub returns-in-Err-clause-err_out : goal.returns-in-Err-clause-err_out
returns-in-Err-clause-err_out c =
    c.truncate.ensures.items ∙ taken_back c.args.out.now c.open_dss.new.out c.in_ok-dss.dss.at c.answered_at_once.new.out.items c.in_ok-dss.ensures.opened c.in_ok-dss.ensures.ok c.in-Err.ensures.err
