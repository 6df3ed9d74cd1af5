use Rattle.std.proofs.Common.{ℕ, List, ap, ◌∙◌, sym}
use Rattle.std.specs.Prelude.{bytes_eq, position}
use Rattle.recovery.specs.Durable.{Doubt}
use Rattle.recovery.specs.declared.prepared.PreparedUnit.{PreparedUnit}
use Rattle.recovery.proofs.Doubting.{unit_nowhere}
use Rattle.recovery.proofs.steps.Replay.complete.Goals as goal

pub find_completed-requires : goal.find_completed-requires
find_completed-requires c =
    let none = sym (ap (position (λ (u : PreparedUnit). bytes_eq c.args.xid.now u.xid)) c.as_slice.ensures.value) ∙ sym c.place_of.ensures ∙ c.in-None.is in
    record { same = ap (λ (e : List ℕ × Doubt). e.0) c.completed-completed.ensures; free = unit_nowhere c.args.xid.now c.args.self.now.units.items none }
