use Rattle.std.proofs.Common.{ap}
use Rattle.sections.specs.Blocks.{section_advanced}
use Rattle.sections.proofs.Entries.{changed_by, unchanged_by}
use Rattle.sections.proofs.named.advance.Goals as goal

pub returns-in-Some-clause-list : goal.returns-in-Some-clause-list
returns-in-Some-clause-list c =
    changed_by c.args.name.now (section_advanced c.args.count c.args.block_size) c.args.sections.now.entries _ c.in-Some.section.now c.advance.new.self c.in-Some.ensures.value c.advance.ensures (c.get_mut.follows.holds c.advance.new.self).0

pub returns-in-None-clause-list : goal.returns-in-None-clause-list
returns-in-None-clause-list c =
    unchanged_by c.args.name.now (section_advanced c.args.count c.args.block_size) c.args.sections.now.entries _ c.in-None.ensures.value (ap (λ m. m.entries) c.get_mut.follows.holds-at-none)
