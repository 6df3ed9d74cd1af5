use Rattle.std.proofs.Common.{ap, ◌∙◌, sym}
use Rattle.std.specs.Option.{option_and_then}
use Rattle.std.specs.Prelude.{bytes_eq, position}
use Rattle.recovery.specs.declared.prepared.PreparedUnit.{PreparedUnit}
use Rattle.recovery.proofs.Doubting.{unit_nowhere}
use Rattle.recovery.proofs.steps.Replay.decide.Goals as goal

pub returns-in-None-clause-step : goal.returns-in-None-clause-step
returns-in-None-clause-step c =
    let none = sym (ap (position (λ (u : PreparedUnit). bytes_eq c.args.xid.now u.xid)) c.as_slice.ensures.value) ∙ sym c.place_of.ensures ∙ c.in-None.is in
    ap (option_and_then _) (unit_nowhere c.args.xid.now c.args.self.now.units.items none)
