use Rattle.std.proofs.Common.{◌≡◌, ◌++◌, length, map}
use Rattle.std.specs.Prelude.{string_bytes}
use Rattle.std.specs.List.{flat_map}
use Rattle.rdb_core.specs.InDoubt.{xids_left}
use Rattle.told_stores.specs.Doubts.{listed_in, listed_of}
use Rattle.told_stores.specs.Dumps.{comment_line}
use Rattle.told_stores.proofs.dumps.comment_text.Given as goal

abbrev pub invariant-loop-xid : goal.invariant-loop-xid
invariant-loop-xid g l =
    string_bytes l.text ++ flat_map comment_line (map (listed_of l.core.state.branches) (xids_left l.left)) ≡ flat_map comment_line (listed_in l.core.state.branches)

abbrev pub decreases-loop-xid : goal.decreases-loop-xid
decreases-loop-xid g l = length (xids_left l.left)
