use Rattle.std.proofs.Common.{sym, ap, ◌∙◌, Some}
use Rattle.std.proofs.lemmas.List.{get_or_default}
use Rattle.xa_manager.specs.declared.branch.Branch.{Branch}
use Rattle.xa_manager.specs.Place.{no_branch}
use Rattle.xa_manager.proofs.Rising.{rises}
use Rattle.xa_manager.proofs.Places.{state_at, state_in_gap}
use Rattle.xa_manager.proofs.table.XaTable.state.Goals as goal

pub returns-in-Ok : goal.returns-in-Ok
returns-in-Ok c =
    let at = rw c.deref.ensures.value at c.in-Ok.ensures.found in
    let read = get_or_default c.self.inside.branches.items c.in-Ok.at c.index.result.now no_branch at.in_range in
    let found = state_at c.self.inside.branches.items (rises c.self.inside.branches.items c.self.invariant.table.rising) c.args.xid.now c.in-Ok.at at in
    rw (← c.self.view_is, found) (ap (λ (b : Branch). Some b.state) (c.index.ensures ∙ read))

pub returns-in-Err : goal.returns-in-Err
returns-in-Err c =
    let gap = rw c.deref.ensures.value at c.in-Err.ensures.absent in
    rw (← c.self.view_is) (sym (state_in_gap c.self.inside.branches.items c.args.xid.now c.in-Err.field-0 gap))
