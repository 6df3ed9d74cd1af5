-- The units so far stand before the place.
use Rattle.std.specs.Ordering.{is_gt, nat_cmp}
use Rattle.std.specs.Cmp.Lexicographic.{slice_cmp}
use Rattle.tables.proofs.Places.{CountsOn}
use Rattle.recovery.proofs.prepared.place_for.Given as goal

abbrev pub invariant-loop-i : goal.invariant-loop-i
invariant-loop-i l = CountsOn (λ u. is_gt (slice_cmp nat_cmp l.xid u.xid)) l.units l.i
