-- How many bytes replies take as DSSs, each in one of its own (DRDA V5 volume 3, "Data Stream Structures").
use Rattle.std.specs.Prelude.{◌≡◌, ◌≤◌, ℕ, ◌+◌, List, [], ◌∷◌, ◌++◌, length}
use Rattle.dss_frames.specs.Writing.{first_size, written_length}
use Rattle.sqlam_replies.specs.Reply.{Reply}

abbrev pub written_lengths : List Reply → ℕ
written_lengths [] = 0
written_lengths (reply ∷ replies) = written_length (length reply.text) + written_lengths replies

-- replies one after another take the bytes of each
abbrev pub RepliesAddUp : Type 0
RepliesAddUp = (replies others : List Reply) → written_lengths (replies ++ others) ≡ written_lengths replies + written_lengths others

-- what goes in one segment has a header of six bytes alone
abbrev pub OneSegmentHasOneHeader : Type 0
OneSegmentHasOneHeader = (count : ℕ) → count ≤ first_size → written_length count ≡ 6 + count
