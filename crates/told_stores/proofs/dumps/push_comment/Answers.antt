use Rattle.std.proofs.Common.{◌∙◌, ◌++◌, List, ℕ, ap, append_assoc, codes, string_bytes}
use Rattle.recovery.specs.Part.{outcome_at}
use Rattle.told_stores.specs.Dumps.{named_line}
use Rattle.told_stores.proofs.dumps.push_comment.Goals as goal

pub returns : goal.returns
returns c =
    c.in_ok-push_named.ensures ∙ ap (λ (front : List ℕ). front ++ named_line (c.args.xid.now, outcome_at c.args.state)) c.in_ok-push_str.ensures.bytes
    ∙ append_assoc (string_bytes c.args.text.now) (codes "-- in doubt, not dumped: ") (named_line (c.args.xid.now, outcome_at c.args.state))
