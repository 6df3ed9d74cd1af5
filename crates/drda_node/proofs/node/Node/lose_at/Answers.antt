use Rattle.std.proofs.Common.{None, ap, refl, ◌∙◌}
use Rattle.drda_node.specs.Register.{shown, number_of}
use Rattle.drda_node.proofs.Rows.{view_set, view_kept, same_machine}
use Rattle.drda_node.proofs.node.Node.lose_at.Goals as goal

pub returns-clause-machine : goal.returns-clause-machine
returns-clause-machine g c = same_machine c.args.self.now.settings _ _ _ _ _ _ (view_set shown c.args.self.now.places.items c.args.place c.close.new.self None c.close.ensures.shown) refl c.end_units.ensures.left

pub returns-clause-numbers : goal.returns-clause-numbers
returns-clause-numbers g c =
    let place = c.index_mut.result.now in
    view_kept number_of c.args.self.now.places.items c.args.place place c.close.new.self (c.close.ensures.number ∙ ap number_of c.index_mut.ensures.value)
