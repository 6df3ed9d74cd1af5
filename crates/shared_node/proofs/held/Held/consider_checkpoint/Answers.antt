use Rattle.std.proofs.Common.{sym, subst, ◌∙◌}
use Rattle.core_history.specs.Books.{Told}
use Rattle.shared_node.specs.Locked.{Considers}
use Rattle.shared_node.proofs.held.Held.consider_checkpoint.Goals as goal

pub returns-clause-considers : goal.returns-clause-considers
returns-clause-considers g c =
    subst (λ (b : Told g.row.D.Denot). Considers {D = g.row.D.Denot} c.end.result b c.consider_checkpoint.new.self) c.self.view_is
    (record {
      rests = c.consider_checkpoint.ensures.rests;
      rest = c.consider_checkpoint.ensures.rest;
      room = c.end.ensures.room;
      failed = λ told. let (was, is) = c.end.ensures.failed told in (sym c.new-begun.ensures ∙ was, is);
      unfailed = λ was is. c.end.ensures.unfailed (c.new-begun.ensures ∙ was) is;
    })
