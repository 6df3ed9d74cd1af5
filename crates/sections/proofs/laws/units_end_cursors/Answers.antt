use Rattle.std.proofs.Common.{ap, ◌∙◌}
use Rattle.std.specs.Prelude.{bytes_eq}
use Rattle.std.specs.Option.{option_map}
use Rattle.std.specs.Map.{lookup}
use Rattle.sections.specs.Kept.{Section}
use Rattle.sections.specs.Units.{section_ended}
use Rattle.sections.proofs.Looking.{cursor_in, ended_in, everywhere, statement_stays}
use Rattle.sections.proofs.laws.units_end_cursors.Goals as goal

pub returns-clause-cursors : goal.returns-clause-cursors
returns-clause-cursors c = λ keeps_held s name.
    ap cursor_in (everywhere name (section_ended keeps_held) s.sections) ∙ ended_in keeps_held (lookup (bytes_eq name) s.sections)

pub returns-clause-statements : goal.returns-clause-statements
returns-clause-statements c = λ keeps_held s name.
    ap (option_map (λ (section : Section). section.statement)) (everywhere name (section_ended keeps_held) s.sections) ∙ statement_stays keeps_held (lookup (bytes_eq name) s.sections)
