use Rattle.std.proofs.Common.{◌≡◌, drop, length, ap, arith, length-append}
use Rattle.std.specs.Prelude.{filter}
use Rattle.std.proofs.lemmas.List.Sums.{length-filter}
use Rattle.std.proofs.lemmas.List.{length-map}
use Rattle.xa_manager.specs.declared.branch.Branch.{Branch}
use Rattle.xa_manager.specs.Branch.{is_in_doubt, in_doubt_xids, in_doubt_count}
use Rattle.xa_manager.proofs.xids.xids_in_doubt.Goals as goal

-- they are no more than the branches in doubt
pub of-requires : goal.of-requires
of-requires c =
    let bs = c.args.branches.now in
    let in_doubt = filter (λ (b : Branch). is_in_doubt b.state) bs in
    let named : length (in_doubt_xids bs) ≡ length in_doubt = length-map in_doubt (λ (b : Branch). b.xid) in
    let counted : length in_doubt ≡ in_doubt_count bs = length-filter (λ (b : Branch). is_in_doubt b.state) bs in
    let parts = length-append c.loop-branch.xids.items (in_doubt_xids (drop c.loop-branch.branch-index bs)) in
    let whole = ap length c.loop-branch.invariant in
    omega (arith, c.requires.in_doubt)
