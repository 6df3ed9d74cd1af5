use Rattle.shared_node.proofs.Holding.{stands_behind}
use Rattle.shared_node.proofs.held.fulfil_where_fair.Goals as goal

pub returns-then-are_fair-clause-stands : goal.returns-then-are_fair-clause-stands
returns-then-are_fair-clause-stands g c =
    λ stands. stands_behind g.D.Disk.life c.args.pass.now c.args.wished.now c.args.wishes.now (c.are_fair.ensures c.if-are_fair.true) c.args.book.now c.make_together.new.self c.make_together.ensures.gathers stands
