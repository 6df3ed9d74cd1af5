use Rattle.std.proofs.Common.{◌≡◌, ◌≤◌, ◌+◌, ◌++◌, length, vec_capacity, vec_len}
use Rattle.command_kit.specs.Sizes.{written_lengths}
use Rattle.command_kit.specs.Replies.{replies_in}
use Rattle.conversation.specs.Exchange.{in_dsss}
use Rattle.conversation.proofs.chain.append_replies.Given as goal

abbrev pub invariant-replies : goal.invariant-replies
invariant-replies l =
    (l.out.items ++ in_dsss l.correlator l.is_chained (replies_in l.left) ≡ l.initial.out.items ++ in_dsss l.correlator l.is_chained (replies_in l.replies))
    × (vec_len l.out + written_lengths (replies_in l.left) ≤ vec_capacity l.out)

abbrev pub decreases-replies : goal.decreases-replies
decreases-replies l = length (replies_in l.left)
