use Rattle.std.proofs.Common.{None}
use Rattle.key_map.proofs.Seen.{remove_seen, room_seen, rows_rising}
use Rattle.key_map.proofs.rows.OrderedRows.remove.Goals as goal

pub returns-clause-rows : goal.returns-clause-rows
returns-clause-rows c = remove_seen c.self.inside.slots.entries c.args.self.now c.self.view_is c.self.invariant c.args.key.now c.write_slot.new.slots.entries c.write_slot.ensures.entries

pub returns-clause-room : goal.returns-clause-room
returns-clause-room c = room_seen c.self.inside.slots.entries c.args.self.now c.self.view_is c.self.invariant c.args.key.now None c.write_slot.new.slots.entries c.write_slot.ensures.entries

pub returns-clause-rising : goal.returns-clause-rising
returns-clause-rising c = rows_rising c.self.inside.slots.entries c.args.self.now c.self.view_is c.self.invariant
