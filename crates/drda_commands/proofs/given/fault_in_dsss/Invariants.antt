use Rattle.std.proofs.Common.{◌≡◌, length}
use Rattle.dss_frames.specs.Group.{command_of}
use Rattle.drda_commands.specs.declared.table.ItemKind.TheVariants.{DataObject}
use Rattle.drda_commands.specs.Given.{contents_of, fault_inside, fault_in_texts}
use Rattle.drda_commands.proofs.given.fault_in_dsss.Given as goal

abbrev pub invariant-dsss : goal.invariant-dsss
invariant-dsss l = fault_in_texts (fault_inside l.items DataObject) (contents_of (command_of l.left)) ≡ fault_in_texts (fault_inside l.items DataObject) (contents_of (command_of l.objects))

abbrev pub decreases-dsss : goal.decreases-dsss
decreases-dsss l = length (command_of l.left)
