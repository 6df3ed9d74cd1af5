use Rattle.std.proofs.Common.{refl}
use Rattle.std.specs.Map.{lookup}
use Rattle.key_map.specs.Slots.{finds}
use Rattle.key_map.proofs.Seen.{drop_rows, rooms_left, still_none, now_none, blank_there}
use Rattle.key_map.proofs.rows.OrderedRows.release.Goals as goal

pub returns-then-is_blank-clause-rows : goal.returns-then-is_blank-clause-rows
returns-then-is_blank-clause-rows c = drop_rows c.self.inside.slots.entries c.args.self.now c.self.view_is c.self.invariant c.args.key.now c.drop_slot.new.slots.entries c.drop_slot.ensures.entries (lookup (finds c.args.key.now) c.self.inside.slots.entries) refl (blank_there (lookup (finds c.args.key.now) c.self.inside.slots.entries) c.is_blank.result c.is_blank.ensures c.if-is_blank.true)

pub returns-then-is_blank-clause-gone : goal.returns-then-is_blank-clause-gone
returns-then-is_blank-clause-gone c = λ _. now_none c.args.key.now c.drop_slot.new.slots.entries c.drop_slot.ensures.gone

pub returns-then-is_blank-clause-room : goal.returns-then-is_blank-clause-room
returns-then-is_blank-clause-room c = rooms_left c.self.inside.slots.entries c.args.self.now c.self.view_is c.self.invariant c.args.key.now c.drop_slot.new.slots.entries c.drop_slot.ensures.entries

pub returns-else-is_blank-clause-gone : goal.returns-else-is_blank-clause-gone
returns-else-is_blank-clause-gone c = still_none c.self.inside.slots.entries c.args.self.now c.self.view_is c.self.invariant c.args.key.now c.is_blank.result c.is_blank.ensures c.if-is_blank.false
