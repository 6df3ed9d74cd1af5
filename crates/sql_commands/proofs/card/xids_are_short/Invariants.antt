-- Those that are left are short where all are.
use Rattle.std.proofs.Common.{◌≡◌, drop, length, nat_le}
use Rattle.std.specs.List.{list_all}
use Rattle.sql_commands.proofs.card.xids_are_short.Given as goal

abbrev pub invariant-loop-xid : goal.invariant-loop-xid
invariant-loop-xid l =
    list_all (λ xid. nat_le (length xid) 140) (drop l.xid-index l.xids) ≡ list_all (λ xid. nat_le (length xid) 140) l.xids
