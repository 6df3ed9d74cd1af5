use Rattle.key_map.proofs.Seen.{kept_seen, new_room, other_room}
use Rattle.key_map.proofs.rows.OrderedRows.reserve.Goals as goal

pub returns-clause-rows : goal.returns-clause-rows
returns-clause-rows c = kept_seen c.self.inside.slots.entries c.args.self.now c.self.view_is c.self.invariant c.in_ok-copy.copy c.args.key.now c.in_ok-copy.ensures.items c.make_slot.new.slots.entries c.in_ok-make_slot.ensures.entries

pub returns-clause-room : goal.returns-clause-room
returns-clause-room c = new_room c.self.inside.slots.entries c.args.self.now c.self.view_is c.self.invariant c.in_ok-copy.copy c.args.key.now c.in_ok-copy.ensures.items c.make_slot.new.slots.entries c.in_ok-make_slot.ensures.entries

pub returns-clause-others : goal.returns-clause-others
returns-clause-others c = other_room c.self.inside.slots.entries c.args.self.now c.self.view_is c.self.invariant c.in_ok-copy.copy c.args.key.now c.in_ok-copy.ensures.items c.make_slot.new.slots.entries c.in_ok-make_slot.ensures.entries
