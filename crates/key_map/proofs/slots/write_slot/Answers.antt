use Rattle.std.proofs.Common.{sym, ap, ◌∙◌}
use Rattle.key_map.specs.Slots.{finds}
use Rattle.key_map.proofs.RowLaws.{set_none}
use Rattle.key_map.proofs.slots.write_slot.Goals as goal

pub returns-in_default-clause-entries : goal.returns-in_default-clause-entries
returns-in_default-clause-entries c = ap (λ m. m.entries) c.get_mut.follows.holds-at-none ∙ sym (set_none (finds c.args.key.now) c.args.slots.now.entries c.args.row (sym c.in_default.ensures.value))
