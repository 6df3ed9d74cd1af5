use Rattle.std.proofs.Common.{◌+◌, ap, ◌∙◌}
use Rattle.std.specs.Prelude.{bytes_eq}
use Rattle.std.specs.Map.{lookup}
use Rattle.sections.specs.Blocks.{section_advanced}
use Rattle.sections.specs.Cursors.{closed, with_cursor}
use Rattle.sections.proofs.Looking.{closed_in, cursor_in, elsewhere, here}
use Rattle.sections.proofs.laws.calls_are_local.Goals as goal

pub returns-clause-opened : goal.returns-clause-opened
returns-clause-opened c = λ s name other rows size apart. elsewhere name other (with_cursor rows (s.openings + 1) size) s.sections apart

pub returns-clause-advanced : goal.returns-clause-advanced
returns-clause-advanced c = λ s name other count size apart. elsewhere name other (section_advanced count size) s.sections apart

pub returns-clause-closed : goal.returns-clause-closed
returns-clause-closed c = λ s name other apart. elsewhere name other closed s.sections apart

pub returns-clause-none : goal.returns-clause-none
returns-clause-none c = λ s name. ap cursor_in (here name closed s.sections) ∙ closed_in (lookup (bytes_eq name) s.sections)
