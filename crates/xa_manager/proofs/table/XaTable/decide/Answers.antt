use Rattle.std.proofs.Common.{◌≡◌, set, sym, subst, ap, ◌∙◌, arith, List, None, Some}
use Rattle.xa_manager.specs.declared.branch.Branch.{Branch}
use Rattle.xa_manager.specs.declared.branch.BranchState.TheVariants.{Heuristic, Prepared}
use Rattle.xa_manager.specs.Branch.{IsTable, count_of, is_active, is_in_doubt, state_of, with_state}
use Rattle.xa_manager.proofs.Rising.{rises, table_decided, count_of-with_state}
use Rattle.xa_manager.proofs.Places.{set_at, state_in_gap}
use Rattle.xa_manager.proofs.table.XaTable.decide.Goals as goal

pub returns : goal.returns
returns c =
    let at = rw c.deref.ensures.value at c.in-Ok.ensures.found in
    rw (← c.self.view_is) (set_at c.self.inside.branches.items (rises c.self.inside.branches.items c.self.invariant.table.rising) c.args.xid.now c.in-Ok.at (Heuristic c.args.decision) at)

-- a branch in doubt stays so, and none begins or ends to be active
pub invariant_of-self : goal.invariant_of-self
invariant_of-self c =
    let bs = c.self.inside.branches.items in
    let at = rw c.deref.ensures.value at c.in-Ok.ensures.found in
    let x = c.args.xid.now in
    let up = rises bs c.self.invariant.table.rising in
    let known : state_of bs x ≡ Some Prepared = rw c.self.view_is c.requires in
    let changed : set bs c.in-Ok.at (record { xid = x; state = Heuristic c.args.decision }) ≡ with_state bs x (Heuristic c.args.decision) = set_at bs up x c.in-Ok.at (Heuristic c.args.decision) at in
    let in_doubt : c.self.inside.counts.in_doubt ≡ count_of is_in_doubt (with_state bs x (Heuristic c.args.decision)) =
    omega (arith, c.self.invariant.in_doubt_is, count_of-with_state is_in_doubt bs x (Heuristic c.args.decision) Prepared up known) in
    let active : c.self.inside.counts.active ≡ count_of is_active (with_state bs x (Heuristic c.args.decision)) =
    omega (arith, c.self.invariant.active_is, count_of-with_state is_active bs x (Heuristic c.args.decision) Prepared up known) in
    record {
      table = subst IsTable (sym changed) (table_decided bs x c.args.decision c.self.invariant.table known);
      in_doubt_is = in_doubt ∙ sym (ap (λ (l : List Branch). count_of is_in_doubt l) changed);
      active_is = active ∙ sym (ap (λ (l : List Branch). count_of is_active l) changed);
    }

-- a prepared branch is known
pub unreachable-requires : goal.unreachable-requires
unreachable-requires c =
    let gap = rw c.deref.ensures.value at c.in-Err.ensures.absent in
    let unknown = state_in_gap c.self.inside.branches.items c.args.xid.now c.in-Err.field-0 gap in
    let known : state_of c.self.inside.branches.items c.args.xid.now ≡ Some Prepared = rw c.self.view_is c.requires in
    absurd cc
