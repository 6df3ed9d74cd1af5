use Rattle.std.proofs.Common.{ap}
use Rattle.sections.specs.Cursors.{with_cursor}
use Rattle.sections.proofs.Entries.{changed_by, unchanged_by}
use Rattle.sections.proofs.named.begin.Goals as goal

pub returns-in-Some-clause-list : goal.returns-in-Some-clause-list
returns-in-Some-clause-list c =
    changed_by c.args.name.now (with_cursor c.args.rows c.args.instance c.args.block_size) c.args.sections.now.entries _ c.in-Some.section.now c.begin.new.self c.in-Some.ensures.value c.begin.ensures (c.get_mut.follows.holds c.begin.new.self).0

pub returns-in-None-clause-list : goal.returns-in-None-clause-list
returns-in-None-clause-list c =
    unchanged_by c.args.name.now (with_cursor c.args.rows c.args.instance c.args.block_size) c.args.sections.now.entries _ c.in-None.ensures.value (ap (λ m. m.entries) c.get_mut.follows.holds-at-none)
