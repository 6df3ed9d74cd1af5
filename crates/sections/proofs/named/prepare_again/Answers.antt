use Rattle.std.proofs.Common.{◌∙◌, ap, List, ℕ}
use Rattle.sections.specs.Cursors.{changed_at}
use Rattle.sections.specs.Kept.{Section}
use Rattle.sections.proofs.Entries.{changed_by, there}
use Rattle.sections.proofs.named.prepare_again.Goals as goal

pub unreachable-requires : goal.unreachable-requires
unreachable-requires c = there c.args.preparation.name c.name.result.now c.args.sections.now.entries c.name.ensures c.in-None.ensures.value c.requires

pub returns : goal.returns
returns c =
    let change = λ (section : Section). record section { statement = c.args.preparation.statement; is_held = c.args.preparation.is_held } in
    changed_by c.name.result.now change c.args.sections.now.entries _ c.in-Some.section.now c.prepare_again.new.section c.in-Some.ensures.value c.prepare_again.ensures (c.get_mut.follows.holds c.prepare_again.new.section).0
    ∙ ap (λ (name : List ℕ). changed_at name change c.args.sections.now.entries) c.name.ensures
