use Rattle.std.proofs.Common.{List, ap, ◌∙◌}
use Rattle.std.specs.List.{prefix_len}
use Rattle.std.specs.Ordering.{is_gt, nat_cmp}
use Rattle.std.specs.Cmp.Lexicographic.{slice_cmp}
use Rattle.recovery.specs.Replay.{doubts_in}
use Rattle.recovery.specs.declared.prepared.PreparedUnit.{PreparedUnit}
use Rattle.recovery.proofs.Doubting.{added}
use Rattle.recovery.proofs.prepared.add.Goals as goal

pub returns : goal.returns
returns c =
    let at = c.place_for-place.ensures.place ∙ ap (λ (l : List PreparedUnit). prefix_len (λ (u : PreparedUnit). is_gt (slice_cmp nat_cmp c.args.unit.xid u.xid)) l) c.as_slice.ensures.value in
    record { added = ap doubts_in c.in_ok-insert.ensures.items ∙ added c.args.unit c.args.units.now.items c.place_for-place.result c.requires at }
