use Rattle.std.proofs.Common.{◌≡◌, ◌<◌, None, true, List, length, sym, subst, ap, ◌∙◌, arith}
use Rattle.xa_manager.specs.declared.branch.Branch.{Branch}
use Rattle.xa_manager.specs.Branch.{IsTable, is_in_doubt, is_active, in_doubt_count, count_of, state_of, with_branch}
use Rattle.xa_manager.proofs.Rising.{rises, table_branch, count_of-with_branch, count_of-le}
use Rattle.xa_manager.proofs.Places.{state_at, insert_in_gap}
use Rattle.xa_manager.proofs.table.XaTable.add.Goals as goal

-- a branch that is found is known
pub unreachable-requires : goal.unreachable-requires
unreachable-requires c =
    let at = rw c.deref.ensures.value at c.in-Ok.ensures.found in
    let known = state_at c.self.inside.branches.items (rises c.self.inside.branches.items c.self.invariant.table.rising) c.args.branch.xid c.in-Ok.field-0 at in
    let unknown : state_of c.self.inside.branches.items c.args.branch.xid ≡ None = rw c.self.view_is c.requires.unknown in
    absurd cc

pub returns-clause-ok : goal.returns-clause-ok
returns-clause-ok c =
    let gap = rw c.deref.ensures.value at c.in-Err.ensures.absent in
    rw (← c.self.view_is) (c.in_ok-insert-in-Err.ensures.items ∙ insert_in_gap c.self.inside.branches.items c.args.branch c.in-Err.at gap)

pub with-counts-requires-clause-in_doubt : goal.with-counts-requires-clause-in_doubt
with-counts-requires-clause-in_doubt c = omega (arith, c.self.invariant.in_doubt_is, c.self.invariant.table.in_doubt)

pub with-counts-requires-clause-active : goal.with-counts-requires-clause-active
with-counts-requires-clause-active c = omega (arith, c.self.invariant.active_is, c.self.invariant.table.known, count_of-le is_active c.self.inside.branches.items)

pub invariant_of-self-in-Err : goal.invariant_of-self-in-Err
invariant_of-self-in-Err c =
    let bs = c.self.inside.branches.items in
    let new = c.args.branch in
    let gap = rw c.deref.ensures.value at c.in-Err.ensures.absent in
    let added : c.insert.new.self.items ≡ with_branch bs new = c.in_ok-insert-in-Err.ensures.items ∙ insert_in_gap bs new c.in-Err.at gap in
    let unknown : state_of bs new.xid ≡ None = rw c.self.view_is c.requires.unknown in
    let known : length bs < 1024 = rw c.self.view_is c.requires.known in
    let room : is_in_doubt new.state ≡ true → in_doubt_count bs < 256 = rw c.self.view_is c.requires.in_doubt in
    let in_doubt : c.with-counts.result.in_doubt ≡ count_of is_in_doubt (with_branch bs new) =
    omega (arith, c.with-counts.ensures.in_doubt, c.self.invariant.in_doubt_is, count_of-with_branch is_in_doubt bs new) in
    let active : c.with-counts.result.active ≡ count_of is_active (with_branch bs new) =
    omega (arith, c.with-counts.ensures.active, c.self.invariant.active_is, count_of-with_branch is_active bs new) in
    record {
      table = subst IsTable (sym added) (table_branch bs new c.self.invariant.table unknown known room);
      in_doubt_is = in_doubt ∙ sym (ap (λ (l : List Branch). count_of is_in_doubt l) added);
      active_is = active ∙ sym (ap (λ (l : List Branch). count_of is_active l) added);
    }
