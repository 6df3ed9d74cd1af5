-- The bytes of replies add up.
use Rattle.std.proofs.Common.{◌≡◌, ◌+◌, List, [], ◌∷◌, ◌++◌, length, sym, ap, ◌∙◌, add_assoc, zero-add}
use Rattle.dss_frames.specs.Writing.{written_length}
use Rattle.sqlam_replies.specs.Reply.{Reply}
use Rattle.command_kit.specs.Sizes.{written_lengths}

pub add_up : (replies others : List Reply) → written_lengths (replies ++ others) ≡ written_lengths replies + written_lengths others
add_up [] others = sym (zero-add (written_lengths others))
add_up (reply ∷ replies) others =
    let first = written_length (length reply.text) in
    ap (λ n. first + n) (add_up replies others) ∙ sym (add_assoc first (written_lengths replies) (written_lengths others))
