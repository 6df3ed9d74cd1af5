use Rattle.std.proofs.Common.{subst, sym}
use Rattle.core_calls.specs.Call.{call_of}
use Rattle.core_history.specs.Books.{Told}
use Rattle.shared_node.specs.Turns.{TakesTurn}
use Rattle.shared_node.proofs.Turning.{rests_behind}
use Rattle.shared_node.proofs.held.Held.take_turn.Goals as goal

pub returns-clause-turn : goal.returns-clause-turn
returns-clause-turn g c =
    let turn = subst (λ (b : Told g.row.D.Denot). TakesTurn {D = g.row.D.Denot} g.D.Disk.is_modelled g.D.Disk.life c.args.pass.now (call_of c.args.call.now) c.act-acted.result c.act-acted.new.pass c.args.self.now b) (sym c.self-2.view_is) c.act-acted.ensures.turn in
    rests_behind {D = g.row.D.Denot} g.D.Disk.is_modelled g.D.Disk.life c.args.self.now c.self-2.inside.book c.rest_behind.new.book c.args.pass.now c.act-acted.new.pass (call_of c.args.call.now) c.act-acted.result turn c.rest_behind.ensures.rests c.rest_behind.ensures.rest
