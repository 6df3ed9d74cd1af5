-- The first i sections have ended the unit.
use Rattle.std.proofs.Common.{◌≡◌, ◌≤◌, length}
use Rattle.indexmap.specs.IndexMap.{spare}
use Rattle.sections.specs.Units.{section_ended}
use Rattle.sections.proofs.Entries.{changed_to}
use Rattle.sections.proofs.named.end_unit.Given as goal

abbrev pub invariant-loop-i : goal.invariant-loop-i
invariant-loop-i l = record {
  list : l.sections.entries ≡ changed_to (section_ended l.keeps_held) l.i l.initial.sections.entries;
  len : length l.sections.entries ≡ length l.initial.sections.entries;
  room : spare l.initial.sections ≤ spare l.sections;
}
