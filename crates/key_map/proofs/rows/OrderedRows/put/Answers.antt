use Rattle.key_map.proofs.Seen.{placed_rows, placed_room, refused_room}
use Rattle.key_map.proofs.rows.OrderedRows.put.Goals as goal

pub returns-clause-rows : goal.returns-clause-rows
returns-clause-rows c = placed_rows c.self.inside.slots.entries c.args.self.now c.self.view_is c.self.invariant c.args.key c.args.row c.put_slot.new.slots.entries c.in_ok-put_slot.ensures.entries

pub returns-clause-room : goal.returns-clause-room
returns-clause-room c = placed_room c.self.inside.slots.entries c.args.self.now c.self.view_is c.self.invariant c.args.key c.args.row c.put_slot.new.slots.entries c.in_ok-put_slot.ensures.entries

pub returns-in_err-put_slot-clause-absent : goal.returns-in_err-put_slot-clause-absent
returns-in_err-put_slot-clause-absent c =
    refused_room c.self.inside.slots.entries c.args.self.now c.self.view_is c.self.invariant c.from_residual.result c.args.key.items c.in_err-put_slot.ensures.absent
