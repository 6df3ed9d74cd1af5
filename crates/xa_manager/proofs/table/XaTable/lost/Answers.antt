use Rattle.std.proofs.Common.{not, List, subst, sym, ap, ◌∙◌}
use Rattle.xa_manager.specs.declared.branch.Branch.{Branch}
use Rattle.xa_manager.specs.Branch.{IsTable, is_lost_with, is_in_doubt, is_active, count_of}
use Rattle.xa_manager.proofs.Rising.{table_filter}
use Rattle.xa_manager.proofs.table.XaTable.lost.Goals as goal

pub invariant_of-self : goal.invariant_of-self
invariant_of-self c = record {
  table = subst IsTable (sym c.keep_others.ensures) (table_filter (λ (b : Branch). not (is_lost_with c.args.conversation b.state)) c.self.inside.branches.items c.self.invariant.table);
  in_doubt_is = c.of-self-inside.ensures.in_doubt ∙ ap (λ (l : List Branch). count_of is_in_doubt l) c.deref.ensures.value;
  active_is = c.of-self-inside.ensures.active ∙ ap (λ (l : List Branch). count_of is_active l) c.deref.ensures.value;
}
