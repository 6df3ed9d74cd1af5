use Rattle.std.proofs.Common.{◌∙◌, subst, sym}
use Rattle.core_calls.specs.Call.{call_of}
use Rattle.core_calls.specs.Answer.{answer_of}
use Rattle.core_history.specs.declared.pass.Pass.{Pass}
use Rattle.shared_node.specs.Desks.{DeskAsks}
use Rattle.shared_node.proofs.Asking.{asked}
use Rattle.shared_node.proofs.asker.AskerAsk.ask.Goals as goal

pub returns : goal.returns
returns g c =
    let asks : Pass → Pass → Type 0 = λ before after. DeskAsks {D = g.row.D.Denot} g.D.Disk.is_modelled g.D.Disk.life g.B.Origin.is before (call_of c.args.call.now) (answer_of c.told.result) after in
    subst (λ (p : Pass). asks p c.leave.new.self) (c.self-2.view_is ∙ (c.come-hold.ensures ∙ c.self.view_is)) (subst (λ (p : Pass). asks c.self-2.inside.pass p) (sym c.leave.ensures)
    (asked {D = g.row.D.Denot} g.D.Disk.is_modelled g.D.Disk.life g.B.Origin.is c.bound_rows.new.self c.take_turn-acted.new.self c.self-2.inside.pass c.take_turn-acted.new.pass (call_of c.args.call.now) c.take_turn-acted.result (answer_of c.told.result)
    c.told.ensures c.take_turn-acted.ensures.shows c.take_turn-acted.ensures.origin c.take_turn-acted.ensures.was_kept c.take_turn-acted.ensures.is_kept c.take_turn-acted.ensures.journaled c.take_turn-acted.ensures.turn))
