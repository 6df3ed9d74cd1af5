use Rattle.std.proofs.Common.{◌∙◌}
use Rattle.sql_changes.proofs.Rooms.{room_step, room_over}
use Rattle.sql_changes.proofs.room.have_room.Goals as goal

pub changes-preserved : goal.changes-preserved
changes-preserved c = room_step c.changes.rest.now c.change-item.result c.length-length.result c.changes.room c.in-len1-up.len_at_least c.change-item.is c.length-length.ensures c.if-length-room.false ∙ c.changes.invariant

pub returns-then-length-room : goal.returns-then-length-room
returns-then-length-room c = room_over c.changes.rest.now c.change-item.result c.length-length.result c.changes.room c.in-len1-up.len_at_least c.change-item.is c.length-length.ensures c.if-length-room.true ∙ c.changes.invariant
