use Rattle.std.proofs.Common.{sym, ap, ◌∙◌, Some, None}
use Rattle.key_map.proofs.Seen.{read_seen}
use Rattle.key_map.proofs.rows.OrderedRows.get.Goals as goal

pub returns-in-Some-slot : goal.returns-in-Some-slot
returns-in-Some-slot c = ap Some c.as_slice.ensures.value ∙ read_seen c.self.inside.slots.entries c.args.self.now c.self.view_is c.self.invariant c.args.key.now (Some (Some c.in-Some-slot.row)) (ap Some (sym c.in-Some-slot.is) ∙ c.in-Some.ensures.value)

pub returns-in-None-slot : goal.returns-in-None-slot
returns-in-None-slot c = read_seen c.self.inside.slots.entries c.args.self.now c.self.view_is c.self.invariant c.args.key.now (Some None) (ap Some (sym c.in-None-slot.is) ∙ c.in-Some.ensures.value)

pub returns-in-None : goal.returns-in-None
returns-in-None c = read_seen c.self.inside.slots.entries c.args.self.now c.self.view_is c.self.invariant c.args.key.now None c.in-None.ensures.value
