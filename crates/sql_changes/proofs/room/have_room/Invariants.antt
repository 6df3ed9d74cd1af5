use Rattle.std.proofs.Common.{◌≡◌, length}
use Rattle.sql_changes.proofs.Rooms.{has_room}
use Rattle.sql_changes.proofs.room.have_room.Given as goal

abbrev pub invariant-changes : goal.invariant-changes
invariant-changes l = has_room l.rest l.room ≡ has_room l.changes l.left

abbrev pub decreases-changes : goal.decreases-changes
decreases-changes l = length l.rest
