use Rattle.std.proofs.Common.{◌≡◌, subst, IfOk, Option, List, ℕ}
use Rattle.command_line.proofs.Spelled.{one_word}
use Rattle.command_line.proofs.spelling.xid_in_one.Goals as goal

pub returns : goal.returns
returns c =
    subst (λ (o : Option (List ℕ)). IfOk c.xid_in.result (λ found. found ≡ o)) (one_word c.args.text.now c.in-Some.format.now c.in-Some.rest.now c.in-Some-split_at_colon.global.now c.in-Some-split_at_colon.branch.now c.in-Some.ensures c.in-Some-split_at_colon.ensures) c.xid_in.ensures
