use Rattle.std.proofs.Common.{◌≡◌, max, length}
use Rattle.command_kit.specs.Replies.{replies_in}
use Rattle.conversation.specs.Exchange as spec
use Rattle.conversation.proofs.chain.worst.Given as goal

abbrev pub invariant-replies : goal.invariant-replies
invariant-replies l = max l.worst (spec.worst (replies_in l.left)) ≡ spec.worst (replies_in l.replies)

abbrev pub decreases-replies : goal.decreases-replies
decreases-replies l = length (replies_in l.left)
