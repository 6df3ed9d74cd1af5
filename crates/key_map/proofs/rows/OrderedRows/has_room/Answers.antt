use Rattle.std.proofs.Common.{sym, ◌∙◌}
use Rattle.key_map.proofs.Seen.{lookup_some}
use Rattle.key_map.proofs.rows.OrderedRows.has_room.Goals as goal

pub returns : goal.returns
returns c = c.contains_key.ensures ∙ sym (lookup_some c.self.inside.slots.entries c.args.self.now c.self.view_is c.self.invariant c.args.key.now)
