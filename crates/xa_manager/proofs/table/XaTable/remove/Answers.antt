use Rattle.std.proofs.Common.{◌≡◌, not, sym, subst, ap, ◌∙◌, arith, List}
use Rattle.std.specs.Str.{bytes_eq}
use Rattle.xa_manager.specs.declared.branch.Branch.{Branch}
use Rattle.xa_manager.specs.Branch.{IsTable, is_in_doubt, is_active, count_of, without}
use Rattle.xa_manager.proofs.Rising.{rises, table_filter, count_of-without, weight-known}
use Rattle.xa_manager.proofs.Places.{known_at, remove_at, without_in_gap}
use Rattle.xa_manager.proofs.table.XaTable.remove.Goals as goal

pub without-self-inside-requires-clause-in_doubt : goal.without-self-inside-requires-clause-in_doubt
without-self-inside-requires-clause-in_doubt c =
    let bs = c.self.inside.branches.items in
    let at = rw c.deref.ensures.value at c.in-Ok.ensures.found in
    let known = known_at bs c.self.invariant.table.rising c.args.xid.now c.in-Ok.at c.index.result.now at c.index.ensures in
    rw c.self.invariant.in_doubt_is (weight-known is_in_doubt bs c.args.xid.now c.index.result.now.state (rises bs c.self.invariant.table.rising) known)

pub without-self-inside-requires-clause-active : goal.without-self-inside-requires-clause-active
without-self-inside-requires-clause-active c =
    let bs = c.self.inside.branches.items in
    let at = rw c.deref.ensures.value at c.in-Ok.ensures.found in
    let known = known_at bs c.self.invariant.table.rising c.args.xid.now c.in-Ok.at c.index.result.now at c.index.ensures in
    rw c.self.invariant.active_is (weight-known is_active bs c.args.xid.now c.index.result.now.state (rises bs c.self.invariant.table.rising) known)

pub returns-in-Ok : goal.returns-in-Ok
returns-in-Ok c =
    let at = rw c.deref.ensures.value at c.in-Ok.ensures.found in
    rw (← c.self.view_is) (c.remove.ensures.items ∙ remove_at c.self.inside.branches.items (rises c.self.inside.branches.items c.self.invariant.table.rising) c.args.xid.now c.in-Ok.at at)

pub invariant_of-self : goal.invariant_of-self
invariant_of-self c =
    let bs = c.self.inside.branches.items in
    let at = rw c.deref.ensures.value at c.in-Ok.ensures.found in
    let known = known_at bs c.self.invariant.table.rising c.args.xid.now c.in-Ok.at c.index.result.now at c.index.ensures in
    let x = c.args.xid.now in
    let old = c.index.result.now.state in
    let up = rises bs c.self.invariant.table.rising in
    let removed : c.remove.new.self.items ≡ without bs x = c.remove.ensures.items ∙ remove_at bs up x c.in-Ok.at at in
    let in_doubt : c.without-self-inside.result.in_doubt ≡ count_of is_in_doubt (without bs x) =
    omega (arith, c.without-self-inside.ensures.in_doubt, c.self.invariant.in_doubt_is, count_of-without is_in_doubt bs x old up known) in
    let active : c.without-self-inside.result.active ≡ count_of is_active (without bs x) =
    omega (arith, c.without-self-inside.ensures.active, c.self.invariant.active_is, count_of-without is_active bs x old up known) in
    record {
      table = subst IsTable (sym removed) (table_filter (λ (b : Branch). not (bytes_eq b.xid x)) bs c.self.invariant.table);
      in_doubt_is = in_doubt ∙ sym (ap (λ (l : List Branch). count_of is_in_doubt l) removed);
      active_is = active ∙ sym (ap (λ (l : List Branch). count_of is_active l) removed);
    }

-- none has the XID
pub returns-in_default : goal.returns-in_default
returns-in_default c =
    let gap = rw c.deref.ensures.value at c.in_default.ensures.absent in
    rw (← c.self.view_is) (sym (without_in_gap c.self.inside.branches.items c.args.xid.now c.in_default.field-0 gap))
