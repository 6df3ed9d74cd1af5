use Rattle.std.proofs.Common.{◌∙◌}
use Rattle.std.specs.Prelude.{bytes_eq}
use Rattle.indexmap.proofs.CallerLemmas.{insert_entry-new}
use Rattle.sections.proofs.Entries.{added_by}
use Rattle.sections.proofs.named.add.Goals as goal

pub returns : goal.returns
returns c =
    let key = c.into_section-name.result.0 in
    let section = c.into_section-name.result.1 in
    added_by c.args.sections.now.entries c.insert.new.self.entries key c.args.preparation.name section _ c.into_section-name.ensures.name c.into_section-name.ensures.section c.requires.absent
    (λ none. c.in-Ok.ensures.entries ∙ insert_entry-new bytes_eq c.args.sections.now key section none)
