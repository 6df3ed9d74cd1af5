use Rattle.std.proofs.Common.{◌≡◌, drop}
use Rattle.ddm_objects.specs.Source.{view}
use Rattle.drda_commands.specs.Given.{fault_inside}
use Rattle.drda_commands.proofs.given.fault_inside.Given as goal

abbrev pub invariant-loop-item : goal.invariant-loop-item
invariant-loop-item l = fault_inside (drop l.item-index l.items) l.kind (view l.object) ≡ fault_inside l.items l.kind (view l.object)
