use Rattle.std.proofs.Common.{subst}
use Rattle.xa_manager.specs.declared.due.Action.{Action}
use Rattle.xa_manager.specs.declared.due.Action.TheVariants as action
use Rattle.xa_manager.specs.Branch.{state_of}
use Rattle.xa_manager.specs.Due.{facts_of}
use Rattle.xa_manager.specs.Laws.{FitsAction}
use Rattle.xa_manager.proofs.AllCalls.{fits}
use Rattle.xa_manager.proofs.table.XaTable.settle.Goals as goal

-- a branch begins where none is known and there is room
pub add-requires-clause-unknown : goal.add-requires-clause-unknown
add-requires-clause-unknown c =
    let facts = facts_of c.args.self.now c.args.conversation c.requires.work in
    let state = state_of c.args.self.now c.args.xid.now in
    let start : FitsAction action.Start state facts = subst (λ (a : Action). FitsAction a state facts) c.in-Start.is (fits c.args.self.now c.args.conversation c.args.xid.now c.args.due c.requires) in
    start.0

pub add-requires-clause-known : goal.add-requires-clause-known
add-requires-clause-known c =
    let facts = facts_of c.args.self.now c.args.conversation c.requires.work in
    let state = state_of c.args.self.now c.args.xid.now in
    let start : FitsAction action.Start state facts = subst (λ (a : Action). FitsAction a state facts) c.in-Start.is (fits c.args.self.now c.args.conversation c.args.xid.now c.args.due c.requires) in
    start.2
