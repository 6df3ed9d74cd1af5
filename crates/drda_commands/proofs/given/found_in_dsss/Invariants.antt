use Rattle.std.proofs.Common.{◌≡◌, length}
use Rattle.dss_frames.specs.Group.{command_of}
use Rattle.drda_commands.specs.Given.{contents_of}
use Rattle.drda_commands.specs.Given.{seen_in_texts, never}
use Rattle.drda_commands.specs.Views.{occurs_of}
use Rattle.drda_commands.proofs.given.found_in_dsss.Given as goal

abbrev pub invariant-dsss : goal.invariant-dsss
invariant-dsss l = seen_in_texts l.code (occurs_of l.seen) (contents_of (command_of l.left)) ≡ seen_in_texts l.code never (contents_of (command_of l.objects))

abbrev pub decreases-dsss : goal.decreases-dsss
decreases-dsss l = length (command_of l.left)
