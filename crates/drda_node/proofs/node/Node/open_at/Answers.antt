use Rattle.std.proofs.Common.{◌≡◌, ◌+◌, Some, rules, refl}
use Rattle.drda_node.specs.Machine.{beginning}
use Rattle.drda_node.specs.Register.{shown, number_of}
use Rattle.drda_node.proofs.Rows.{view_set, same_machine}
use Rattle.drda_node.proofs.node.Node.open_at.Goals as goal

pub returns-clause-opened : goal.returns-clause-opened
returns-clause-opened g c =
    let items = c.args.self.now.places.items in
    let next : c.in-Some.next_number ≡ c.args.self.now.next_number + 1 = search rules in
    record {
      free = c.requires;
      left = search rules;
      row = same_machine c.args.self.now.settings _ _ _ _ _ _ (view_set shown items c.args.place c.begin.new.self (Some beginning) c.begin.ensures.shown) next refl;
      number = refl;
      numbers = view_set number_of items c.args.place c.begin.new.self c.args.self.now.next_number c.begin.ensures.number;
    }
