use Rattle.std.proofs.Common.{◌≡◌, ◌<◌, true, set, sym, subst, ap, ◌∙◌, arith, List}
use Rattle.xa_manager.specs.declared.branch.Branch.{Branch}
use Rattle.xa_manager.specs.Branch.{IsTable, is_in_doubt, is_active, in_doubt_count, count_of, with_state}
use Rattle.xa_manager.proofs.Rising.{rises, table_state, count_of-with_state, count_of-le, weight-known}
use Rattle.xa_manager.proofs.Places.{known_at, set_at, with_state_in_gap}
use Rattle.xa_manager.proofs.table.XaTable.set.Goals as goal

pub without-requires-clause-in_doubt : goal.without-requires-clause-in_doubt
without-requires-clause-in_doubt c =
    let bs = c.self.inside.branches.items in
    let at = rw c.deref.ensures.value at c.in-Ok.ensures.found in
    let known = known_at bs c.self.invariant.table.rising c.args.xid.now c.in-Ok.at c.index.result.now at c.index.ensures in
    rw c.self.invariant.in_doubt_is (weight-known is_in_doubt bs c.args.xid.now c.index.result.now.state (rises bs c.self.invariant.table.rising) known)

pub without-requires-clause-active : goal.without-requires-clause-active
without-requires-clause-active c =
    let bs = c.self.inside.branches.items in
    let at = rw c.deref.ensures.value at c.in-Ok.ensures.found in
    let known = known_at bs c.self.invariant.table.rising c.args.xid.now c.in-Ok.at c.index.result.now at c.index.ensures in
    rw c.self.invariant.active_is (weight-known is_active bs c.args.xid.now c.index.result.now.state (rises bs c.self.invariant.table.rising) known)

pub with-self-inside-requires-clause-in_doubt : goal.with-self-inside-requires-clause-in_doubt
with-self-inside-requires-clause-in_doubt c = omega (arith, c.without.ensures.in_doubt, c.self.invariant.in_doubt_is, c.self.invariant.table.in_doubt)

pub with-self-inside-requires-clause-active : goal.with-self-inside-requires-clause-active
with-self-inside-requires-clause-active c = omega (arith, c.without.ensures.active, c.self.invariant.active_is, c.self.invariant.table.known, count_of-le is_active c.self.inside.branches.items)

pub returns-in-Ok : goal.returns-in-Ok
returns-in-Ok c =
    let at = rw c.deref.ensures.value at c.in-Ok.ensures.found in
    rw (← c.self.view_is) (set_at c.self.inside.branches.items (rises c.self.inside.branches.items c.self.invariant.table.rising) c.args.xid.now c.in-Ok.at c.args.state at)

pub invariant_of-self : goal.invariant_of-self
invariant_of-self c =
    let bs = c.self.inside.branches.items in
    let at = rw c.deref.ensures.value at c.in-Ok.ensures.found in
    let known = known_at bs c.self.invariant.table.rising c.args.xid.now c.in-Ok.at c.index.result.now at c.index.ensures in
    let x = c.args.xid.now in
    let s = c.args.state in
    let old = c.index.result.now.state in
    let up = rises bs c.self.invariant.table.rising in
    let changed : set bs c.in-Ok.at (record { xid = x; state = s }) ≡ with_state bs x s = set_at bs up x c.in-Ok.at s at in
    let room : is_in_doubt s ≡ true → in_doubt_count bs < 256 = rw c.self.view_is c.requires in
    let in_doubt : c.with-self-inside.result.in_doubt ≡ count_of is_in_doubt (with_state bs x s) =
    omega (arith, c.with-self-inside.ensures.in_doubt, c.without.ensures.in_doubt, c.self.invariant.in_doubt_is, count_of-with_state is_in_doubt bs x s old up known) in
    let active : c.with-self-inside.result.active ≡ count_of is_active (with_state bs x s) =
    omega (arith, c.with-self-inside.ensures.active, c.without.ensures.active, c.self.invariant.active_is, count_of-with_state is_active bs x s old up known) in
    record {
      table = subst IsTable (sym changed) (table_state bs x s old c.self.invariant.table known room);
      in_doubt_is = in_doubt ∙ sym (ap (λ (l : List Branch). count_of is_in_doubt l) changed);
      active_is = active ∙ sym (ap (λ (l : List Branch). count_of is_active l) changed);
    }

-- none has the XID
pub returns-in_default : goal.returns-in_default
returns-in_default c =
    let gap = rw c.deref.ensures.value at c.in_default.ensures.absent in
    rw (← c.self.view_is) (sym (with_state_in_gap c.self.inside.branches.items c.args.xid.now c.in_default.field-0 c.args.state gap))
