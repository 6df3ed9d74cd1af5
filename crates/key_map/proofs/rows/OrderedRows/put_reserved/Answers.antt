use Rattle.std.proofs.Common.{Some}
use Rattle.key_map.proofs.Seen.{put_seen, room_seen}
use Rattle.key_map.proofs.rows.OrderedRows.put_reserved.Goals as goal

pub returns-clause-rows : goal.returns-clause-rows
returns-clause-rows c = put_seen c.self.inside.slots.entries c.args.self.now c.self.view_is c.self.invariant c.args.key.now c.args.row c.write_slot.new.slots.entries c.requires c.write_slot.ensures.entries

pub returns-clause-room : goal.returns-clause-room
returns-clause-room c = room_seen c.self.inside.slots.entries c.args.self.now c.self.view_is c.self.invariant c.args.key.now (Some c.args.row) c.write_slot.new.slots.entries c.write_slot.ensures.entries
