use Rattle.std.proofs.Common.{ap, sym, ◌∙◌, option_map}
use Rattle.drda_commands.specs.Views.{accepted_of}
use Rattle.session_commands.specs.declared.answer.AtOnce.{AtOnce}
use Rattle.session_commands.specs.Access.{Answer, answered_at_once}
use Rattle.conversation.specs.Views.{standing_of, verdict_of}
use Rattle.conversation.proofs.Sending.{access_once, on_database, refused_once}
use Rattle.conversation.proofs.exchange.answer.Goals as goal

pub returns-in-Some-clause-ok : goal.returns-in-Some-clause-ok
returns-in-Some-clause-ok g c =
    let accepted = accepted_of c.in-Ok.accepted in
    let due : AtOnce → Answer = λ what. answered_at_once c.args.settings.now c.args.state.now.session what accepted.given in
    access_once g.A.Ask.asks c.tell.result c.args.settings.now (standing_of c.args.state.now c.args.asker.now) c.args.link accepted (verdict_of c.args.verdict)
    (due c.in-Some.what) c.tell.new.state.session c.tell.new.state.statements c.args.out.now.items c.tell.new.out.items
    (ap verdict_of c.in-Ok.is) (ap (option_map due) (sym c.of.ensures ∙ c.in-Some.is)) c.tell.ensures.session c.tell.ensures.bytes c.tell.ensures.statements

pub returns-in-None-clause-ok : goal.returns-in-None-clause-ok
returns-in-None-clause-ok g c =
    let accepted = accepted_of c.in-Ok.accepted in
    let due : AtOnce → Answer = λ what. answered_at_once c.args.settings.now c.args.state.now.session what accepted.given in
    on_database g.A.Ask.asks c.run.result c.args.settings.now (standing_of c.args.state.now c.args.asker.now) (standing_of c.run.new.state c.run.new.asker) c.args.link accepted (verdict_of c.args.verdict)
    c.args.out.now.items c.run.new.out.items (ap verdict_of c.in-Ok.is) (ap (option_map due) (sym c.of.ensures ∙ c.in-None.is)) c.run.ensures.ok

pub returns-in-Err-clause-ok : goal.returns-in-Err-clause-ok
returns-in-Err-clause-ok g c =
    refused_once g.A.Ask.asks c.refuse.result c.args.settings.now (standing_of c.args.state.now c.args.asker.now) c.args.link c.in-Err.refusal (verdict_of c.args.verdict)
    c.refuse.new.state.session c.refuse.new.state.statements c.args.out.now.items c.refuse.new.out.items
    (ap verdict_of c.in-Err.is) c.refuse.ensures.session c.refuse.ensures.bytes c.refuse.ensures.statements
